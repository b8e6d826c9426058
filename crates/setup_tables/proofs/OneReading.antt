-- What the tables of a configuration say is read in one way.
use Rattle.std.proofs.Common.{◌≡◌, ℕ, List, codes, false, Option, Some, None, Err, sym, subst, ◌∙◌, Ok, Result, ap, inl, inr, length}
use Rattle.std.proofs.lemmas.Bool.{false≢true}
use Rattle.std.proofs.lemmas.Option.{same_Some}
use Rattle.octets.specs.Text4.{IsText4}
use Rattle.octets.specs.PrefixText.{IsPrefixText4, IsPrefixText6}
use Rattle.octets.specs.declared.address.Addr4.{Addr4}
use Rattle.octets.specs.declared.prefix.Prefix4.{Prefix4}
use Rattle.octets.specs.declared.prefix.Prefix6.{Prefix6}
use Rattle.octets.proofs.OneValue.{one_addr4, one_prefix4, one_prefix6}
use Rattle.octets.proofs.Same.{same_prefix4, same_prefix6, same_mtus}
use Rattle.map_rules.proofs.Same.{same_dmr}
use Rattle.map_rules.specs.declared.dmr.Dmr.{Dmr}
use Rattle.setup_tables.specs.Tables.{IsDocument, early_fault, listed, tables_of}
use Rattle.nat_model.specs.declared.binding.Binding.{Binding}
use Rattle.setup_tables.specs.declared.change.Action.{Action}
use Rattle.setup_tables.specs.declared.change.Action.TheVariants as action
use Rattle.setup_tables.specs.declared.change.ChangeText.{ChangeText}
use Rattle.setup_tables.specs.declared.forward.ForwardText.{ForwardText}
use Rattle.setup_tables.specs.Forward.{proto_at, HasBinding, IsForwardTable, IsForward, most_until, never}
use Rattle.setup_tables.specs.Change.{verb_at, HasRule, HasAction, IsChangeTable, IsChange, most_at}
use Rattle.setup_tables.proofs.Actions.{add≢remove, add≢replace, remove≢replace}
use Rattle.setup_tables.specs.declared.fault.SetupCause.{SetupCause}
use Rattle.setup_tables.specs.declared.fault.SetupCause.TheVariants.{NotToml, BadDomain, BadRule, BadEdge, BadForward, BadChange}
use Rattle.setup_tables.specs.declared.fault.SetupFault.TheVariants.{Refused}
use Rattle.toml.specs.Parse.{parse_document}
use Rattle.toml.specs.Data.{Data, string, integer, float, boolean, datetime, array, table, Members}
use Rattle.setup_tables.specs.declared.domain.Required.{Required}
use Rattle.setup_tables.specs.declared.domain.Domain.{Domain}
use Rattle.setup_tables.specs.declared.rule.RuleLine.{RuleLine}
use Rattle.setup_tables.specs.declared.edge.EdgeLine.{EdgeLine}
use Rattle.setup_tables.specs.Answer.{OfTable, HasNone}
use Rattle.setup_tables.specs.Keys.{has_key, text_at, table_at, tables_at, number_at, number_or, flag_or, optional_text_at}
use Rattle.setup_tables.specs.EdgeName.{edge_name_at}
use Rattle.setup_tables.specs.Spelled.{HasAddr4, HasPrefix4, HasPrefix6, HasDmr}
use Rattle.toml.specs.Data.{get_member, as_str}
use Rattle.std.specs.Prelude.{option_and_then, is_some}
use Rattle.s46_options.specs.declared.item.Item.{Item}
use Rattle.s46_options.specs.declared.fault.OptionFault.{OptionFault}
use Rattle.s46_options.specs.declared.digits.HexFault.{HexFault}
use Rattle.s46_options.specs.declared.digits.HexFault.TheVariants.{At}
use Rattle.s46_options.specs.Digits.{hex_of, fault_place}
use Rattle.s46_options.specs.Faults.{fault_of}
use Rattle.s46_options.specs.Reading.{ReadsContainer}
use Rattle.s46_options.proofs.OneReading.{one_container as octets_read_once}
use Rattle.setup_tables.specs.declared.origin.Given.{Given}
use Rattle.setup_tables.specs.declared.origin.Origin.{Origin}
use Rattle.setup_tables.specs.declared.origin.Origin.TheVariants as origin
use Rattle.setup_tables.specs.Lines.{lines_in, dmr_in}
use Rattle.setup_tables.specs.Origin.{SaysItems, SaysContainer, SaysOptions, HasKeys, HasOrigin}
use Rattle.setup_tables.specs.Domain.{HasRequired, IsDomain}
use Rattle.setup_tables.specs.Rule.{IsRuleTable, IsRule}
use Rattle.setup_tables.specs.Edge.{IsEdgeTable, IsEdge}
use Rattle.setup_tables.proofs.OneAnswer.{IsOne, AreOne, then_one, barring_one, exactly_one, the_one, each_one}
use Rattle.setup_tables.specs.Tables.{octets_tables}

-- what was found twice at one place is one thing
pub once : {A : Type 0} (o : Option A) (x y : A) → o ≡ Some x → o ≡ Some y → x ≡ y
once o x y first second = same_Some x y (sym first ∙ second)

one_addr : (key : List ℕ) (ms : Members) (a b : Addr4) → HasAddr4 key ms a → HasAddr4 key ms b → a ≡ b
one_addr key ms a b h g =
    let text = once (text_at key ms) h.text g.text h.there g.there in
    let same : a.0 ≡ b.0 = one_addr4 g.text a.0 b.0 (subst (λ t. IsText4 t a.0) text h.spelled) g.spelled in
    λ i. record { 0 = same i }

one_rule_prefix4 : (key : List ℕ) (ms : Members) (p q : Prefix4) → HasPrefix4 key ms p → HasPrefix4 key ms q → p ≡ q
one_rule_prefix4 key ms p q h g =
    let text = once (text_at key ms) h.text g.text h.there g.there in
    let same = one_prefix4 g.text p.bits p.len q.bits q.len (subst (λ t. IsPrefixText4 t p.bits p.len) text h.spelled) g.spelled in
    same_prefix4 p q same.0 same.1

one_prefix : (key : List ℕ) (ms : Members) (p q : Prefix6) → HasPrefix6 key ms p → HasPrefix6 key ms q → p ≡ q
one_prefix key ms p q h g =
    let text = once (text_at key ms) h.text g.text h.there g.there in
    let same = one_prefix6 g.text p.bits p.len q.bits q.len (subst (λ t. IsPrefixText6 t p.bits p.len) text h.spelled) g.spelled in
    same_prefix6 p q same.0 same.1

one_required : (ms : Members) (x y : Required) → HasRequired ms x → HasRequired ms y → x ≡ y
one_required ms x y h g =
    let relay = one_addr (codes "relay") ms x.relay y.relay h.relay g.relay in
    let mtus = same_mtus x.mtus y.mtus (once (number_at (codes "mtu4") 1280 9000 ms) _ _ h.mtu4 g.mtu4) (once (number_at (codes "mtu6") 1280 9000 ms) _ _ h.mtu6 g.mtu6) in
    λ i. record { relay = relay i; mtus = mtus i }

required_at : (ms ns : Members) (x y : Required) → ms ≡ ns → HasRequired ms x → HasRequired ns y → x ≡ y
required_at ms ns x y same h g = one_required ns x y (subst (λ t. HasRequired t x) same h) g

-- ---- where the default mapping rule and the rules come from

same_given : (g k : Given) → g.dmr ≡ k.dmr → g.lines ≡ k.lines → g ≡ k
same_given g k dmr lines = λ i. record { dmr = dmr i; lines = lines i }

good_octets : List ℕ → Result (List ℕ) HexFault
good_octets octets = Ok octets

same_octets : (a b : List ℕ) → good_octets a ≡ good_octets b → a ≡ b
unfolding good_octets
same_octets a b h = cc

bad_place : ℕ → Result (List ℕ) HexFault
bad_place i = Err (At i)

same_place : (i j : ℕ) → bad_place i ≡ bad_place j → i ≡ j
unfolding bad_place
same_place i j h = cc

no_place : (octets : List ℕ) (i : ℕ) → good_octets octets ≡ bad_place i → ⊥
unfolding good_octets bad_place
no_place octets i h = cc

no_fault : (f : OptionFault) → None ≡ Some f → ⊥
no_fault f h = cc

spelled_once : (text a b : List ℕ) → hex_of text ≡ good_octets a → hex_of text ≡ good_octets b → a ≡ b
spelled_once text a b h g = same_octets a b (sym h ∙ g)

one_given : (text : List ℕ) (g k : Given) → SaysContainer text g → SaysContainer text k → g ≡ k
unfolding good_octets
one_given text g k a b =
    let octets = spelled_once text a.octets b.octets a.spelled b.spelled in
    let items = octets_read_once b.octets a.items b.items (subst (λ (os : List ℕ). ReadsContainer os a.items) octets a.read) b.read in
    let prefix = once (dmr_in b.items) g.dmr.prefix k.dmr.prefix (subst (λ (xs : List Item). dmr_in xs ≡ Some g.dmr.prefix) items a.says.dmr) b.says.dmr in
    same_given g k (same_dmr g.dmr k.dmr prefix) (a.says.lines ∙ ap lines_in items ∙ sym b.says.lines)

refused_from : SetupCause → ℕ → Origin
refused_from cause i = origin.Refused cause i

one_says : (text : List ℕ) (x y : Origin) → SaysOptions text x → SaysOptions text y → x ≡ y
unfolding good_octets bad_place
one_says text (origin.Keys d) y a b = absurd a
one_says text (origin.Container g) (origin.Keys d) a b = absurd b
one_says text (origin.Refused cause i) (origin.Keys d) a b = absurd b
one_says text (origin.Container g) (origin.Container k) a b = ap (λ (z : Given). origin.Container z) (one_given text g k a b)
one_says text (origin.Container g) (origin.Refused cause i) a (inl b) = absurd (no_place a.octets i (sym a.spelled ∙ b.spelled))
one_says text (origin.Container g) (origin.Refused cause i) a (inr b) =
    let octets = spelled_once text a.octets b.octets a.spelled b.spelled in
    absurd (no_fault b.fault (sym a.sound ∙ ap fault_of octets ∙ b.refused))
one_says text (origin.Refused cause i) (origin.Container g) (inl a) b = absurd (no_place b.octets i (sym b.spelled ∙ a.spelled))
one_says text (origin.Refused cause i) (origin.Container g) (inr a) b =
    let octets = spelled_once text b.octets a.octets b.spelled a.spelled in
    absurd (no_fault a.fault (sym b.sound ∙ ap fault_of octets ∙ a.refused))
one_says text (origin.Refused c i) (origin.Refused d j) (inl a) (inl b) =
    ap (λ (z : SetupCause). origin.Refused z i) (a.cause_is ∙ sym b.cause_is) ∙ ap (λ (z : ℕ). origin.Refused d z) (same_place i j (sym a.spelled ∙ b.spelled))
one_says text (origin.Refused c i) (origin.Refused d j) (inl a) (inr b) = absurd (no_place b.octets i (sym b.spelled ∙ a.spelled))
one_says text (origin.Refused c i) (origin.Refused d j) (inr a) (inl b) = absurd (no_place a.octets j (sym a.spelled ∙ b.spelled))
one_says text (origin.Refused c i) (origin.Refused d j) (inr a) (inr b) =
    let octets = spelled_once text a.octets b.octets a.spelled b.spelled in
    let fault = once (fault_of b.octets) a.fault b.fault (subst (λ (os : List ℕ). fault_of os ≡ Some a.fault) octets a.refused) b.refused in
    let place : i ≡ j = a.place ∙ ap (λ (os : List ℕ). fault_place a.fault (length os)) octets ∙ ap (λ (f : OptionFault). fault_place f (length b.octets)) fault ∙ sym b.place in
    ap (λ (z : SetupCause). origin.Refused z i) (a.cause_is ∙ sym b.cause_is) ∙ ap (λ (z : ℕ). origin.Refused d z) place

one_keys : (keys : Members) (x y : Origin) → HasKeys keys x → HasKeys keys y → x ≡ y
one_keys keys (origin.Keys d) (origin.Keys e) a b = ap (λ (z : Dmr). origin.Keys z) (same_dmr d e (one_prefix (codes "dmr") keys d.prefix e.prefix a.1 b.1))
one_keys keys (origin.Keys d) (origin.Container k) a b = absurd b
one_keys keys (origin.Keys d) (origin.Refused c i) a b = absurd b
one_keys keys (origin.Container g) y a b = absurd a
one_keys keys (origin.Refused c i) y a b = absurd a

-- a container whose items say no default mapping rule says nothing
pub no_options : (text octets : List ℕ) (items : List Item) → hex_of text ≡ Ok octets → fault_of octets ≡ None → ReadsContainer octets items → HasNone SaysItems items → (x : Origin) → SaysOptions text x → ⊥
unfolding good_octets bad_place
no_options text octets items spelled sound read none (origin.Keys d) h = h
no_options text octets items spelled sound read none (origin.Container g) h =
    let same = spelled_once text h.octets octets h.spelled spelled in
    let all = octets_read_once octets h.items items (subst (λ (os : List ℕ). ReadsContainer os h.items) same h.read) read in
    none g (subst (λ (xs : List Item). SaysItems xs g) all h.says)
no_options text octets items spelled sound read none (origin.Refused cause i) (inl h) = no_place octets i (sym spelled ∙ h.spelled)
no_options text octets items spelled sound read none (origin.Refused cause i) (inr h) =
    let same = spelled_once text octets h.octets spelled h.spelled in
    no_fault h.fault (sym sound ∙ ap fault_of same ∙ h.refused)

-- a text that stands at a key, and no key there
none_some : (text : List ℕ) → None ≡ Some text → ⊥
none_some text h = cc

found_not : (o : Option Data) (text : List ℕ) → option_and_then as_str o ≡ Some text → is_some o ≡ false → ⊥
found_not None text there missing = none_some text there
found_not (Some d) text there missing = false≢true (sym missing)

keys_none : (keys : Members) (x : Origin) → HasKeys keys x → has_key (codes "options") keys ≡ false
keys_none keys (origin.Keys d) h = h.0
keys_none keys (origin.Container g) h = absurd h
keys_none keys (origin.Refused c i) h = absurd h

stands : (key : List ℕ) (keys : Members) (text : List ℕ) → text_at key keys ≡ Some text → has_key key keys ≡ false → ⊥
stands key keys text there missing = found_not (get_member key keys) text there missing

found_none : (o : Option Data) (text : List ℕ) → option_and_then as_str o ≡ Some text → None ≡ o → ⊥
found_none None text there missing = none_some text there
found_none (Some d) text there missing = cc missing

-- neither options nor a default mapping rule
pub no_origin : (document keys : Members) → None ≡ get_member (codes "options") keys → ((d : Dmr) → HasDmr (codes "dmr") keys d → ⊥) → (x : Origin) → HasOrigin document keys x → ⊥
no_origin document keys missing none (origin.Keys d) (inl h) = none d h.1
no_origin document keys missing none (origin.Container g) (inl h) = h
no_origin document keys missing none (origin.Refused c i) (inl h) = h
no_origin document keys missing none x (inr h) = found_none (get_member (codes "options") keys) h.text h.there missing

one_origin : (document keys : Members) (x y : Origin) → HasOrigin document keys x → HasOrigin document keys y → x ≡ y
one_origin document keys x y (inl a) (inl b) = one_keys keys x y a b
one_origin document keys x y (inl a) (inr b) = absurd (stands (codes "options") keys b.text b.there (keys_none keys x a))
one_origin document keys x y (inr a) (inl b) = absurd (stands (codes "options") keys a.text a.there (keys_none keys y b))
one_origin document keys x y (inr a) (inr b) =
    let text = once (text_at (codes "options") keys) a.text b.text a.there b.there in
    one_says b.text x y (subst (λ (t : List ℕ). SaysOptions t x) text a.says) b.says

pub one_domain : (document : Members) (x y : Domain) → IsDomain document x → IsDomain document y → x ≡ y
one_domain document x y h g =
    let same = once (table_at (codes "domain") document) h.table g.table h.there g.there in
    let required = required_at h.table g.table x.required y.required same h.required g.required in
    let access = once (optional_text_at (codes "access") g.table) x.access y.access (subst (λ t. optional_text_at (codes "access") t ≡ Some x.access) same h.access) g.access in
    let core = once (optional_text_at (codes "core") g.table) x.core y.core (subst (λ t. optional_text_at (codes "core") t ≡ Some x.core) same h.core) g.core in
    let from = one_origin document g.table x.origin y.origin (subst (λ (t : Members). HasOrigin document t x.origin) same h.origin) g.origin in
    λ i. record { required = required i; origin = from i; access = access i; core = core i }

one_rule_table : (ms : Members) (x y : RuleLine) → IsRuleTable ms x → IsRuleTable ms y → x ≡ y
one_rule_table ms x y h g =
    let prefix6 = one_prefix (codes "prefix6") ms x.prefix6 y.prefix6 h.prefix6 g.prefix6 in
    let prefix4 = one_rule_prefix4 (codes "prefix4") ms x.prefix4 y.prefix4 h.prefix4 g.prefix4 in
    let ea = once (number_at (codes "ea") 0 255 ms) x.ea y.ea h.ea g.ea in
    let offset = once (number_or 6 (codes "offset") 255 ms) x.offset y.offset h.offset g.offset in
    let forward = once (flag_or false (codes "forward") ms) x.forward y.forward h.forward g.forward in
    λ i. record { prefix6 = prefix6 i; prefix4 = prefix4 i; ea = ea i; offset = offset i; forward = forward i }

one_edge_table : (ms : Members) (x y : EdgeLine) → IsEdgeTable ms x → IsEdgeTable ms y → x ≡ y
one_edge_table ms x y h g =
    let name = once (edge_name_at (codes "name") ms) x.name y.name h.name g.name in
    let prefix = one_prefix (codes "prefix") ms x.prefix y.prefix h.prefix g.prefix in
    let lan = one_addr (codes "lan") ms x.lan y.lan h.lan g.lan in
    let capture = once (optional_text_at (codes "capture") ms) x.capture y.capture h.capture g.capture in
    λ i. record { name = name i; prefix = prefix i; lan = lan i; capture = capture i }

of_one_table : {A : Type 0} (Says : Members → A → Type 0) → ((ms : Members) (x y : A) → Says ms x → Says ms y → x ≡ y) → (d : Data) (x y : A) → OfTable Says d x → OfTable Says d y → x ≡ y
of_one_table Says one (table ms) x y h g = one ms x y h g
of_one_table Says one (string _) x y h g = absurd h
of_one_table Says one (integer _) x y h g = absurd h
of_one_table Says one (float _) x y h g = absurd h
of_one_table Says one (boolean _) x y h g = absurd h
of_one_table Says one (datetime _) x y h g = absurd h
of_one_table Says one (array _) x y h g = absurd h

pub one_rule : AreOne IsRule (HasNone IsRule)
one_rule = record { one = of_one_table IsRuleTable one_rule_table; none = λ d x is no. no x is }

pub one_edge : AreOne IsEdge (HasNone IsEdge)
one_edge = record { one = of_one_table IsEdgeTable one_edge_table; none = λ d x is no. no x is }

-- ---- forwards and changes

one_binding : (ms : Members) (x y : Binding) → HasBinding ms x → HasBinding ms y → x ≡ y
one_binding ms x y h g =
    let proto = once (proto_at (codes "proto") ms) x.proto y.proto h.proto g.proto in
    let host = one_addr (codes "host") ms x.host y.host h.host g.host in
    let host_port = once (number_at (codes "host_port") 0 65535 ms) x.host_port y.host_port h.host_port g.host_port in
    let port = once (number_at (codes "port") 0 65535 ms) x.port y.port h.port g.port in
    let deadline = once (number_or never (codes "until") most_until ms) x.deadline y.deadline h.deadline g.deadline in
    let live = h.live ∙ sym g.live in
    let kept = h.kept ∙ sym g.kept in
    λ i. record { proto = proto i; host = host i; host_port = host_port i; port = port i; deadline = deadline i; live = live i; kept = kept i }

one_forward_table : (ms : Members) (x y : ForwardText) → IsForwardTable ms x → IsForwardTable ms y → x ≡ y
one_forward_table ms x y h g =
    let edge = once (text_at (codes "edge") ms) x.edge y.edge h.edge g.edge in
    let binding = one_binding ms x.binding y.binding h.binding g.binding in
    λ i. record { edge = edge i; binding = binding i }

pub one_forward : AreOne IsForward (HasNone IsForward)
one_forward = record { one = of_one_table IsForwardTable one_forward_table; none = λ d x is no. no x is }

one_inner_rule : (ms : Members) (x y : RuleLine) → HasRule ms x → HasRule ms y → x ≡ y
one_inner_rule ms x y h g =
    let same = once (get_member (codes "rule") ms) h.value g.value h.there g.there in
    one_rule.one g.value x y (subst (λ (d : Data). IsRule d x) same h.says) g.says

one_action : (ms : Members) (x y : Action) → HasAction ms x → HasAction ms y → x ≡ y
one_action ms (action.Add x) (action.Add y) h g = ap (λ (z : RuleLine). action.Add z) (one_inner_rule ms x y h.rule g.rule)
one_action ms (action.Remove p) (action.Remove q) h g = ap (λ (z : Prefix6). action.Remove z) (one_prefix (codes "prefix6") ms p q h.prefix g.prefix)
one_action ms (action.Replace p x) (action.Replace q y) h g =
    ap (λ (z : Prefix6). action.Replace z x) (one_prefix (codes "prefix6") ms p q h.prefix g.prefix) ∙ ap (λ (z : RuleLine). action.Replace q z) (one_inner_rule ms x y h.rule g.rule)
one_action ms (action.Add x) (action.Remove q) h g = absurd (add≢remove (once (verb_at ms) _ _ h.word g.word))
one_action ms (action.Add x) (action.Replace q y) h g = absurd (add≢replace (once (verb_at ms) _ _ h.word g.word))
one_action ms (action.Remove p) (action.Add y) h g = absurd (add≢remove (once (verb_at ms) _ _ g.word h.word))
one_action ms (action.Remove p) (action.Replace q y) h g = absurd (remove≢replace (once (verb_at ms) _ _ h.word g.word))
one_action ms (action.Replace p x) (action.Add y) h g = absurd (add≢replace (once (verb_at ms) _ _ g.word h.word))
one_action ms (action.Replace p x) (action.Remove q) h g = absurd (remove≢replace (once (verb_at ms) _ _ g.word h.word))

one_change_table : (ms : Members) (x y : ChangeText) → IsChangeTable ms x → IsChangeTable ms y → x ≡ y
one_change_table ms x y h g =
    let at = once (number_at (codes "at") 0 most_at ms) x.at y.at h.at g.at in
    let live = once (flag_or false (codes "live") ms) x.live y.live h.live g.live in
    let action = one_action ms x.action y.action h.action g.action in
    λ i. record { at = at i; live = live i; action = action i }

pub one_change : AreOne IsChange (HasNone IsChange)
one_change = record { one = of_one_table IsChangeTable one_change_table; none = λ d x is no. no x is }

-- ---- the whole

pub one_document : (octets : List ℕ) (x y : Members) → IsDocument octets x → IsDocument octets y → x ≡ y
one_document octets x y h g = once (parse_document octets) x y h.1 g.1

listed_one : {A : Type 0} (cause : SetupCause) (Is : Data → A → Type 0) → AreOne Is (HasNone Is) → (o : Option (List Data)) → IsOne (listed cause Is o)
listed_one cause Is are None = exactly_one (Err (Refused cause 0))
listed_one cause Is are (Some tables) = each_one cause Is (HasNone Is) are tables

one_tables : (document : Members) → IsOne (tables_of document)
unfolding tables_of
one_tables document =
    then_one _ _ (the_one (IsDomain document) (Refused BadDomain 0) (one_domain document)) (λ domain.
    then_one _ _ (listed_one BadRule IsRule one_rule (tables_at (codes "rule") document)) (λ lines.
    then_one _ _ (listed_one BadEdge IsEdge one_edge (tables_at (codes "edge") document)) (λ edges.
    then_one _ _ (listed_one BadForward IsForward one_forward (tables_at (codes "forward") document)) (λ forwards.
    then_one _ _ (listed_one BadChange IsChange one_change (tables_at (codes "change") document)) (λ changes.
    exactly_one _)))))

pub one_octets : (octets : List ℕ) → IsOne (octets_tables octets)
unfolding octets_tables
one_octets octets =
    then_one _ _ (the_one (IsDocument octets) (Refused NotToml 0) (one_document octets)) (λ document.
    barring_one (early_fault document) (tables_of document) (one_tables document))
