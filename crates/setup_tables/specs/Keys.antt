-- What the keys of a table of the configuration hold. A configuration is a TOML document, and a table is
-- its members.
use Rattle.std.specs.Prelude.{ℕ, pos, List, [], ◌∷◌, Bool, ◌&&◌, nat_le, nat_eq, if◌then◌else◌, Option, Some, None, option_and_then, is_some}
use Rattle.std.specs.List.{list_any, list_all}
use Rattle.std.specs.Cmp.Lexicographic.{pointwise}
use Rattle.toml.specs.Data.{Data, integer, Items, no_items, item, Members, no_members, member, get_member, as_str, as_bool, as_array, as_table}

-- the names of the members
abbrev pub names_of : Members → List (List ℕ)
names_of no_members = []
names_of (member name d ms) = name ∷ names_of ms

-- the name is one of these
abbrev pub is_among : List (List ℕ) → List ℕ → Bool
is_among known name = list_any (λ other. pointwise nat_eq other name) known

-- no name stands there but these
abbrev pub has_only : List (List ℕ) → Members → Bool
has_only known ms = list_all (is_among known) (names_of ms)

-- a key stands there
abbrev pub has_key : List ℕ → Members → Bool
has_key key ms = is_some (get_member key ms)

-- the text at a key
abbrev pub text_at : List ℕ → Members → Option (List ℕ)
text_at key ms = option_and_then as_str (get_member key ms)

-- the table at a key
abbrev pub table_at : List ℕ → Members → Option Members
table_at key ms = option_and_then as_table (get_member key ms)

-- a key that may be missing: none where it holds another type than a text, and else the text or its want
abbrev pub optional : {A : Type 0} → (Data → Option A) → Option Data → Option (Option A)
optional read None = Some None
optional read (Some d) = option_and_then (λ x. Some (Some x)) (read d)

abbrev pub optional_text_at : List ℕ → Members → Option (Option (List ℕ))
optional_text_at key ms = optional as_str (get_member key ms)

-- the whole number from `least` to `most` that a value is
abbrev pub within : ℕ → ℕ → ℕ → Option ℕ
within least most n = if nat_le least n && nat_le n most then Some n else None

abbrev pub number_in : ℕ → ℕ → Data → Option ℕ
number_in least most (integer (pos n)) = within least most n
number_in least most _ = None

-- the number at a key, in its range
abbrev pub number_at : List ℕ → ℕ → ℕ → Members → Option ℕ
number_at key least most ms = option_and_then (number_in least most) (get_member key ms)

-- what a key that may be missing holds, and its default where it is missing
abbrev pub or_default : {A : Type 0} → A → (Data → Option A) → Option Data → Option A
or_default default read None = Some default
or_default default read (Some d) = read d

abbrev pub number_or : ℕ → List ℕ → ℕ → Members → Option ℕ
number_or default key most ms = or_default default (number_in 0 most) (get_member key ms)

abbrev pub flag_or : Bool → List ℕ → Members → Option Bool
flag_or default key ms = or_default default as_bool (get_member key ms)

-- the elements of an array that are all tables
abbrev pub elements : Items → List Data
elements no_items = []
elements (item d ds) = d ∷ elements ds

abbrev pub is_table : Data → Bool
is_table d = is_some (as_table d)

abbrev pub all_tables : List Data → Option (List Data)
all_tables ds = if list_all is_table ds then Some ds else None

abbrev pub tables_in : Data → Option (List Data)
tables_in d = option_and_then (λ ds. all_tables (elements ds)) (as_array d)

-- the list of tables at a key, which has none where the key is missing
abbrev pub tables_at : List ℕ → Members → Option (List Data)
tables_at key ms = or_default [] tables_in (get_member key ms)
