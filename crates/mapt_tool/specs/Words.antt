-- How far given words follow the forms of the code, and what one word says.
use Rattle.std.specs.Prelude.{ℕ, ◌+◌, ◌-◌, ◌*◌, nat_le, is_some, Bool, true, not, ◌==◌, ◌&&◌, if◌then◌else◌, max, List, [], ◌∷◌, length, codes, Option, Some, None}
use Rattle.std.specs.Str.{bytes_eq}
use Rattle.octets.specs.Text4.{addr4_at}
use Rattle.mapt_tool.specs.declared.words.Verb.{Verb as VerbType}
use Rattle.mapt_tool.specs.declared.words.Verb.TheVariants.{Replay, Rules, Owner, Options}
use Rattle.mapt_tool.specs.declared.words.Kind.{Kind}
use Rattle.mapt_tool.specs.declared.words.Kind.TheVariants.{Verb, FileName, Text, Generation, Address, Port}
use Rattle.mapt_tool.specs.declared.words.Command.{Command}
use Rattle.mapt_tool.specs.declared.words.Command.TheVariants.{Replay as Replayed, Rules as Printed, Owner as Asked, Options as Shown}
use Rattle.mapt_tool.specs.declared.words.TheConstants.{REPLAY, RULES, OWNER, OPTIONS}
use Rattle.mapt_tool.specs.Request.{Request, replay, rules, owner, options}

-- how a form's first word is written
abbrev pub keyword_of : VerbType → List ℕ
keyword_of Replay = codes "replay"
keyword_of Rules = codes "rules"
keyword_of Owner = codes "owner"
keyword_of Options = codes "options"

-- decimal digits after a number, as long as that isn't above the most
abbrev pub digits_up_to : ℕ → ℕ → List ℕ → Option ℕ
digits_up_to most n [] = Some n
digits_up_to most n (c ∷ cs) =
    if (nat_le 48 c && nat_le c 57) && nat_le (10 * n + (c - 48)) most then digits_up_to most (10 * n + (c - 48)) cs else None

-- the number of decimal digits without a leading zero, except `0` itself, up to the most
abbrev pub number_up_to : ℕ → List ℕ → Option ℕ
number_up_to most [] = None
number_up_to most (c ∷ []) = digits_up_to most 0 (c ∷ [])
number_up_to most (c ∷ d ∷ cs) = if c == 48 then None else digits_up_to most 0 (c ∷ d ∷ cs)

-- the greatest numbers of a generation and of a port
abbrev pub most_generation : ℕ
most_generation = 64

abbrev pub most_port : ℕ
most_port = 65535

-- whether a word may stand in a place
abbrev pub fits : Kind → List ℕ → Bool
fits (Verb verb) word = bytes_eq word (keyword_of verb)
fits FileName word = not (length word == 0)
fits Text word = true
fits Generation word = is_some (number_up_to most_generation word)
fits Address word = is_some (addr4_at word)
fits Port word = is_some (number_up_to most_port word)

-- how many words follow the form, from the first on
abbrev pub fitting : List Kind → List (List ℕ) → ℕ
fitting [] words = 0
fitting (kind ∷ form) [] = 0
fitting (kind ∷ form) (word ∷ words) = if fits kind word then fitting form words + 1 else 0

-- the forms of the code
abbrev pub forms : List (List Kind)
forms = REPLAY ∷ RULES ∷ OWNER ∷ OPTIONS ∷ []

-- how many words from the first on begin a form: of words that are none, the place of the first that no
-- form can go on with, or their number
abbrev pub usage_of : List (List Kind) → List (List ℕ) → ℕ
usage_of [] words = 0
usage_of (form ∷ others) words = max (fitting form words) (usage_of others words)

abbrev pub usage_number : List (List ℕ) → ℕ
usage_number words = usage_of forms words

-- a command of the code, as it is spelled
abbrev pub seen : Command → Request
seen (Replayed config prefix) = replay config.now prefix.now
seen (Printed config generation) = rules config.now generation
seen (Asked config generation addr port) = owner config.now generation addr.0 port
seen (Shown file) = options file.now
