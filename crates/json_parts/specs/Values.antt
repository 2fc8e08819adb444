-- Parts of a command file: values, texts, numbers, and the members of an object.
use Rattle.std.specs.Prelude.{ℕ, ◌+◌, ◌*◌, ◌^◌, ℤ, pos, negsuc, nat_lt, List, [], ◌∷◌, Bool, true, false, ◌&&◌, Option, Some, None, option_and_then, option_map, codes, bytes_eq, if◌then◌else◌}
use Rattle.std.specs.List.{list_any}
use Rattle.std.specs.Option.{option_map_or}
use Rattle.hex.specs.Hex.{hex_digit_value}
use Rattle.serde_json.specs.Data.{Data, Items, no_items, item, Members, no_members, member}
use Rattle.serde_json.specs.Data as json
use Rattle.serde_json.specs.Find.{get, as_str, as_array, as_object, as_number, as_i64, as_u64}
use Rattle.msi_values.specs.Datum.{Datum, null, number, text, binary}

-- ---- objects

-- each member's key is among these
abbrev pub keys_among : List (List ℕ) → Members → Bool
keys_among ks no_members = true
keys_among ks (member k d ms) = list_any (bytes_eq k) ks && keys_among ks ms

-- an object with no other key
abbrev pub only_keys : List (List ℕ) → Data → Bool
only_keys ks d = option_map_or (keys_among ks) (as_object d) false

-- what stands at a name
abbrev pub named : {X : Type 0} → List ℕ → List (List ℕ × X) → Option X
named name [] = None
named name (p ∷ ps) = if bytes_eq p.0 name then Some p.1 else named name ps

-- the member of a key, read so
abbrev pub at_key : {X : Type 0} → List ℕ → (Data → Option X) → Data → Option X
at_key k read d = option_and_then read (get k d)

-- the same of a member that may be absent
abbrev pub at_key_or : {X : Type 0} → X → Option Data → (Data → Option X) → Option X
at_key_or absent None read = Some absent
at_key_or absent (Some d) read = read d

-- what is read, if it is not null
abbrev pub unless_null : {X : Type 0} → (Data → Option X) → Data → Option (Option X)
unless_null read json.null = Some None
unless_null read (json.boolean b) = option_map Some (read (json.boolean b))
unless_null read (json.number n) = option_map Some (read (json.number n))
unless_null read (json.string s) = option_map Some (read (json.string s))
unless_null read (json.array ds) = option_map Some (read (json.array ds))
unless_null read (json.object ms) = option_map Some (read (json.object ms))

-- ---- lists

-- each of the items, read so
abbrev pub all_in : {X : Type 0} → (Data → Option X) → Items → Option (List X)
all_in f no_items = Some []
all_in f (item d ds) = option_and_then (λ x. option_map (λ xs. x ∷ xs) (all_in f ds)) (f d)

-- a list of what is read so
abbrev pub list_in : {X : Type 0} → (Data → Option X) → Data → Option (List X)
list_in f d = option_and_then (all_in f) (as_array d)

-- two items and no more
abbrev pub two_items : Items → Option (Data × Data)
two_items (item d (item e no_items)) = Some (d, e)
two_items no_items = None
two_items (item d no_items) = None
two_items (item d (item e (item c ds))) = None

-- a list of two
abbrev pub two_in : Data → Option (Data × Data)
two_in d = option_and_then two_items (as_array d)

-- a list of two, each read in its way
abbrev pub pair_in : {X Y : Type 0} → (Data → Option X) → (Data → Option Y) → Data → Option (X × Y)
pair_in f g d = option_and_then (λ p. option_and_then (λ x. option_map (λ y. (x, y)) (g p.1)) (f p.0)) (two_in d)

-- ---- numbers and texts

-- a number of 32 bits with its sign
abbrev pub fits : ℤ → Bool
fits (pos n) = nat_lt n (2 ^ 31)
fits (negsuc n) = nat_lt n (2 ^ 31)

-- such a number, where it is one
abbrev pub in_range : ℤ → Option ℤ
in_range z = if fits z then Some z else None

-- the same of what a file holds
abbrev pub int_in : Data → Option ℤ
int_in d = option_and_then in_range (option_and_then as_i64 (as_number d))

-- a whole number below a bound
abbrev pub below : ℕ → ℕ → Option ℕ
below bound n = if nat_lt n bound then Some n else None

-- the same of what a file holds
abbrev pub whole_in : ℕ → Data → Option ℕ
whole_in bound d = option_and_then (below bound) (option_and_then as_u64 (as_number d))

-- the word true alone
abbrev pub truth_in : Data → Option Bool
truth_in (json.boolean true) = Some true
truth_in (json.boolean false) = None
truth_in json.null = None
truth_in (json.number n) = None
truth_in (json.string s) = None
truth_in (json.array ds) = None
truth_in (json.object ms) = None

-- two digits as a byte before the others
abbrev pub byte_before : Option ℕ → Option ℕ → Option (List ℕ) → Option (List ℕ)
byte_before (Some high) (Some low) (Some bytes) = Some ((high * 16 + low) ∷ bytes)
byte_before (Some high) (Some low) None = None
byte_before (Some high) None rest = None
byte_before None low rest = None

-- bytes from pairs of hexadecimal digits
abbrev pub hex_bytes : List ℕ → Option (List ℕ)
hex_bytes [] = Some []
hex_bytes (a ∷ []) = None
hex_bytes (a ∷ b ∷ rest) = byte_before (hex_digit_value a) (hex_digit_value b) (hex_bytes rest)

-- ---- values

-- a value that stands for a binary stream, where the member is true
abbrev pub marked : Option Data → Option Datum
marked (Some (json.boolean true)) = Some binary
marked d = None

-- null, a 32-bit number, a text or {"binary":true}
abbrev pub value_in : Data → Option Datum
value_in json.null = Some null
value_in (json.boolean b) = None
value_in (json.number n) = option_map number (option_and_then in_range (as_i64 n))
value_in (json.string s) = Some (text s)
value_in (json.array ds) = None
value_in (json.object ms) = if only_keys (codes "binary" ∷ []) (json.object ms) then marked (get (codes "binary") (json.object ms)) else None

-- a row of values
abbrev pub row_in : Data → Option (List Datum)
row_in d = option_and_then (all_in value_in) (as_array d)

-- rows of values
abbrev pub rows_in : Data → Option (List (List Datum))
rows_in d = option_and_then (all_in row_in) (as_array d)

-- the text of a key
abbrev pub text_at : List ℕ → Data → Option (List ℕ)
text_at k d = option_and_then as_str (get k d)
