-- ICMP errors that are translated are ICMP errors still.
use Rattle.std.proofs.Common.{◌≡◌, ◌≢◌, refl, sym, ap, ◌∙◌, ℕ, ◌+◌, ◌≤◌, ◌⊎◌, inl, inr, Bool, true, false, cond, List, [], ◌∷◌, Option, Some, None, arith, subst}
use Rattle.std.specs.Prelude.{◌==◌, ◌&&◌, ◌||◌, not, length}
use Rattle.std.specs.Option.{option_map}
use Rattle.std.proofs.lemmas.Bool.{eqb-true, lt-ltb}
use Rattle.std.proofs.lemmas.List.{length-take}
use Rattle.octets.specs.declared.address.Addr4.{Addr4}
use Rattle.octets.specs.declared.address.Addr6.{Addr6}
use Rattle.octets.specs.declared.mtus.Mtus.{Mtus}
use Rattle.octets.proofs.Same.{both_true}
use Rattle.octets.proofs.Segments.{segment4, segment6}
use Rattle.octets.specs.Field.{octet}
use Rattle.ip4_packet.specs.declared.head.Head4.{Head4}
use Rattle.ip4_packet.specs.Fragment.{is_fragment}
use Rattle.ip6_packet.specs.declared.head.Head6.{Head6}
use Rattle.l4_headers.specs.declared.ends.Ends.{Ends}
use Rattle.icmp_messages.specs.declared.icmp4.Icmp4.{Icmp4}
use Rattle.icmp_messages.specs.declared.icmp6.Icmp6.{Icmp6}
use Rattle.icmp_messages.specs.declared.table.Row.{Row}
use Rattle.icmp_messages.specs.declared.table.Rest.TheVariants.{Query}
use Rattle.icmp_messages.specs.Message.{message4, message6}
use Rattle.icmp_messages.specs.Table.{table46, table64, row_of}
use Rattle.xlat46.specs.Head.{translated as translated46}
use Rattle.xlat64.specs.Head.{translated as translated64}
use Rattle.icmp_xlat.specs.Icmp46.{error46, rest46, with_message46}
use Rattle.icmp_xlat.specs.Icmp64.{error64, rest64, with_message64}
use Rattle.icmp_xlat.specs.Inner.{inner46}
use Rattle.icmp_xlat.specs.declared.passing.Passing.{Passing}
use Rattle.icmp_xlat.proofs.Rows.{AllRows, same_row, found_row}
use Rattle.packet_faults.specs.Error.{IsError4 as IsFaultIn4, IsError6 as IsFaultIn6}
use Rattle.packets.specs.declared.packet4.Content4.{Content4}
use Rattle.packets.specs.declared.packet4.Content4.TheVariants.{Segment as Segment4, Later as Later4, Query as Query4, Error as Error4}
use Rattle.packets.specs.declared.packet4.Packet4.{Packet4}
use Rattle.packets.specs.declared.packet6.Content6.{Content6}
use Rattle.packets.specs.declared.packet6.Content6.TheVariants.{Segment as Segment6, Later as Later6, Query as Query6, Error as Error6}
use Rattle.packets.specs.Packet4.{IsContent4}
use Rattle.packets.specs.Packet6.{IsContent6}
use Rattle.transit.specs.Passage46.{translation46, is_rigid4}
use Rattle.transit.specs.Passage64.{translation64}
use Rattle.journeys.specs.Rank.{is_fault4, is_fault6, is_error_type4, is_error_type6}
use Rattle.journeys.proofs.Faults.{written_fault4, written_fault6}

-- ---- rows of the tables

-- a row that is found has the kind that was looked for
row_kind : (rows : List Row) (kind code : ℕ) (found : Row) → row_of rows kind code ≡ Some found → found.kind ≡ kind
row_kind [] kind code found is = absurd (cc)
row_kind (r ∷ rows) kind code found is = by (r.kind == kind && r.code == code) refl (row_kind rows kind code found) is
  where
    by : (b : Bool) → (r.kind == kind && r.code == code) ≡ b → (row_of rows kind code ≡ Some found → found.kind ≡ kind) → cond b (Some r) (row_of rows kind code) ≡ Some found → found.kind ≡ kind
    by true e behind at = sym (ap (λ (x : Row). x.kind) (same_row r found at)) ∙ eqb-true r.kind kind (both_true (r.kind == kind) (r.code == code) e).0
    by false e behind at = behind at

-- a query is no error, and what is no query becomes an error
abbrev IsTold64 : Row → Type 0
IsTold64 r = (r.rest ≡ Query → is_error_type6 r.kind ≡ false) × (r.rest ≢ Query → is_error_type4 r.to_kind ≡ true)

abbrev IsTold46 : Row → Type 0
IsTold46 r = (r.rest ≡ Query → is_error_type4 r.kind ≡ false) × (r.rest ≢ Query → is_error_type6 r.to_kind ≡ true)

all64 : AllRows IsTold64 table64
all64 = ((λ _. refl, λ no. absurd (no refl)), ((λ _. refl, λ no. absurd (no refl)), ((λ e. absurd (cc), λ _. refl), ((λ e. absurd (cc), λ _. refl), ((λ e. absurd (cc), λ _. refl), ((λ e. absurd (cc), λ _. refl), ((λ e. absurd (cc), λ _. refl), ((λ e. absurd (cc), λ _. refl), ((λ e. absurd (cc), λ _. refl), ((λ e. absurd (cc), λ _. refl), ((λ e. absurd (cc), λ _. refl), ((λ e. absurd (cc), λ _. refl), tt))))))))))))

all46 : AllRows IsTold46 table46
all46 = ((λ _. refl, λ no. absurd (no refl)), ((λ _. refl, λ no. absurd (no refl)), ((λ e. absurd (cc), λ _. refl), ((λ e. absurd (cc), λ _. refl), ((λ e. absurd (cc), λ _. refl), ((λ e. absurd (cc), λ _. refl), ((λ e. absurd (cc), λ _. refl), ((λ e. absurd (cc), λ _. refl), ((λ e. absurd (cc), λ _. refl), ((λ e. absurd (cc), λ _. refl), ((λ e. absurd (cc), λ _. refl), ((λ e. absurd (cc), λ _. refl), ((λ e. absurd (cc), λ _. refl), ((λ e. absurd (cc), λ _. refl), ((λ e. absurd (cc), λ _. refl), ((λ e. absurd (cc), λ _. refl), ((λ e. absurd (cc), λ _. refl), ((λ e. absurd (cc), λ _. refl), ((λ e. absurd (cc), λ _. refl), ((λ e. absurd (cc), λ _. refl), ((λ e. absurd (cc), λ _. refl), tt)))))))))))))))))))))

told64 : (kind code : ℕ) (r : Row) → row_of table64 kind code ≡ Some r → IsTold64 r
told64 kind code r found = found_row IsTold64 table64 kind code r all64 found

told46 : (kind code : ℕ) (r : Row) → row_of table46 kind code ≡ Some r → IsTold46 r
told46 kind code r found = found_row IsTold46 table46 kind code r all46 found

-- ---- a packet that is an ICMP error carries one

abbrev pub IsErrorContent4 : Content4 → Type 0
IsErrorContent4 (Segment4 proto l4) = ⊥
IsErrorContent4 (Later4 proto) = ⊥
IsErrorContent4 (Query4 message row) = ⊥
IsErrorContent4 (Error4 message row inner) = Unit {0}

abbrev pub IsErrorContent6 : Content6 → Type 0
IsErrorContent6 (Segment6 proto l4) = ⊥
IsErrorContent6 (Later6 proto) = ⊥
IsErrorContent6 (Query6 message row) = ⊥
IsErrorContent6 (Error6 message row inner) = Unit {0}

true_false : (b : Bool) → b ≡ true → b ≡ false → ⊥
true_false b is isnt = absurd (cc)

no_segment6 : (n : ℕ) → (n ≡ 6) ⊎ (n ≡ 17) → n ≡ 58 → ⊥
no_segment6 n (inl e) is = omega arith
no_segment6 n (inr e) is = omega arith

no_segment4 : (n : ℕ) → (n ≡ 6) ⊎ (n ≡ 17) → n ≡ 1 → ⊥
no_segment4 n (inl e) is = omega arith
no_segment4 n (inr e) is = omega arith

pub fault_content6 : (at_relay : Bool) (h : Head6) (payload : List ℕ) (content : Content6) → IsContent6 at_relay h payload content → IsFaultIn6 h.upper payload
    → IsErrorContent6 content
fault_content6 at_relay h payload (Segment6 proto l4) is fault = no_segment6 h.upper (segment6 h.upper proto is.protocol is.no_icmp) fault.0
fault_content6 at_relay h payload (Later6 proto) is fault = no_segment6 h.upper (segment6 h.upper proto is.protocol is.no_icmp) fault.0
fault_content6 at_relay h payload (Query6 m row) is fault =
    let kind = row_kind table64 m.kind m.code row is.0.found ∙ is.0.message.kind in
    let no : is_error_type6 (octet payload 0) ≡ false = sym (ap is_error_type6 kind) ∙ (told64 m.kind m.code row is.0.found).0 is.1 in
    true_false _ (lt-ltb (octet payload 0) 128 fault.2) no
fault_content6 at_relay h payload (Error6 m row inner) is fault = tt

error_type4 : (kind : ℕ) → (kind ≡ 3) ⊎ ((kind ≡ 4) ⊎ ((kind ≡ 5) ⊎ ((kind ≡ 11) ⊎ (kind ≡ 12)))) → is_error_type4 kind ≡ true
error_type4 kind (inl e) = rw e refl
error_type4 kind (inr (inl e)) = rw e refl
error_type4 kind (inr (inr (inl e))) = rw e refl
error_type4 kind (inr (inr (inr (inl e)))) = rw e refl
error_type4 kind (inr (inr (inr (inr e)))) = rw e refl

pub fault_content4 : (h : Head4) (payload : List ℕ) (content : Content4) → IsContent4 h payload content → IsFaultIn4 h.proto payload → IsErrorContent4 content
fault_content4 h payload (Segment4 proto l4) is fault = no_segment4 h.proto (segment4 h.proto proto is.protocol is.no_icmp) fault.0
fault_content4 h payload (Later4 proto) is fault = no_segment4 h.proto (segment4 h.proto proto is.protocol is.no_icmp) fault.0
fault_content4 h payload (Query4 m row) is fault =
    let kind = row_kind table46 m.kind m.code row is.0.found ∙ is.0.message.kind in
    let no : is_error_type4 (octet payload 0) ≡ false = sym (ap is_error_type4 kind) ∙ (told46 m.kind m.code row is.0.found).0 is.1 in
    true_false _ (error_type4 (octet payload 0) fault.2) no
fault_content4 h payload (Error4 m row inner) is fault = tt

-- ---- and its translation is one

some_is : {A : Type 0} (x y : A) → ◌≡◌ {A = Option A} (Some x) (Some y) → x ≡ y
some_is x y e = cc

message_fault4 : (h : Head6) (m : Icmp4) (ends : Ends Addr4) (id : ℕ) → h.upper ≡ 58 → is_error_type4 m.kind ≡ true → is_fault4 (with_message64 h m ends id) ≡ true
message_fault4 h m ends id upper kind =
    written_fault4 (translated64 (record h { length = 8 + length m.body }) ends.src ends.dst id) (message4 m)
    (rw upper refl) (omega arith) (omega arith) kind

message_fault6 : (h : Head4) (m : Icmp6) (ends : Ends Addr6) → h.proto ≡ 1 → is_fragment h ≡ false → length m.body ≤ 1232 → is_error_type6 m.kind ≡ true
    → is_fault6 (with_message46 h m ends) ≡ true
message_fault6 h m ends proto whole few kind =
    written_fault6 (record (translated46 h ends.src ends.dst) { length = 8 + length m.body }) (message6 ends.src ends.dst m)
    (rw proto refl) (rw whole refl) (omega arith) (omega (arith, few)) kind

-- an ICMP error that is taken, over IPv4
pub translated_fault4 : (at_relay : Bool) (to : Passing Addr4) (h : Head6) (payload octets : List ℕ) (content : Content6) → IsContent6 at_relay h payload content
    → IsFaultIn6 h.upper payload → translation64 to h payload content ≡ Some octets → is_fault4 octets ≡ true
translated_fault4 at_relay to h payload octets (Segment6 proto l4) is fault e = absurd (fault_content6 at_relay h payload (Segment6 proto l4) is fault)
translated_fault4 at_relay to h payload octets (Later6 proto) is fault e = absurd (fault_content6 at_relay h payload (Later6 proto) is fault)
translated_fault4 at_relay to h payload octets (Query6 m row) is fault e = absurd (fault_content6 at_relay h payload (Query6 m row) is fault)
translated_fault4 at_relay to h payload octets (Error6 m row inner) is fault e = by (rest64 to.mtus m.rest row.rest) e
  where
    by : (rest : Option ℕ) → option_map (λ rest. with_message64 h (error64 row rest inner to.ends) to.ends to.id) rest ≡ Some octets → is_fault4 octets ≡ true
    by None e = absurd (cc)
    by (Some rest) e =
        subst (λ (xs : List ℕ). is_fault4 xs ≡ true) (some_is _ octets e)
        (message_fault4 h (error64 row rest inner to.ends) to.ends to.id fault.0 ((told64 m.kind m.code row is.message.found).1 is.error.no_query))

-- and over IPv6
pub translated_fault6 : (mtus : Mtus) (ends : Ends Addr6) (h : Head4) (payload octets : List ℕ) (content : Content4) → IsContent4 h payload content
    → IsFaultIn4 h.proto payload → translation46 mtus h payload ends content ≡ Some octets → is_fault6 octets ≡ true
translated_fault6 mtus ends h payload octets (Segment4 proto l4) is fault e = absurd (fault_content4 h payload (Segment4 proto l4) is fault)
translated_fault6 mtus ends h payload octets (Later4 proto) is fault e = absurd (fault_content4 h payload (Later4 proto) is fault)
translated_fault6 mtus ends h payload octets (Query4 m row) is fault e = absurd (fault_content4 h payload (Query4 m row) is fault)
translated_fault6 mtus ends h payload octets (Error4 m row inner) is fault e = by (rest46 mtus inner.head.total m.rest row.rest) e
  where
    by : (rest : Option ℕ) → option_map (λ rest. with_message46 h (error46 row rest inner ends) ends) rest ≡ Some octets → is_fault6 octets ≡ true
    by None e = absurd (cc)
    by (Some rest) e =
        subst (λ (xs : List ℕ). is_fault6 xs ≡ true) (some_is _ octets e)
        (message_fault6 h (error46 row rest inner ends) ends fault.0 is.message.whole (omega (arith, length-take 1232 (inner46 inner ends)))
        ((told46 m.kind m.code row is.message.found).1 is.error.no_query))

or_true : (b : Bool) → (b || true) ≡ true
or_true true = refl
or_true false = refl

-- an ICMP error is never cut
pub fault_is_rigid : (p : Packet4) (payload : List ℕ) → IsContent4 p.head payload p.content → IsFaultIn4 p.head.proto payload → is_rigid4 p ≡ true
fault_is_rigid p payload is fault = by p.content (fault_content4 p.head payload p.content is fault) refl
  where
    by : (content : Content4) → IsErrorContent4 content → p.content ≡ content → is_rigid4 p ≡ true
    by (Segment4 proto l4) never e = absurd never
    by (Later4 proto) never e = absurd never
    by (Query4 m row) never e = absurd never
    by (Error4 m row inner) error e = rw e (or_true (not (is_fragment p.head) && p.head.df))
