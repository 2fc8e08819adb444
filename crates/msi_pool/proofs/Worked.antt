-- Worked places and pools, computed from the definitions.
use Rattle.std.proofs.Common.{◌≡◌, ℕ, true, false, List, [], ◌∷◌, refl}
use Rattle.std.specs.Prelude.{Some, codes, Result, Ok, Err}
use Rattle.std.specs.Str.{chars, is_utf8}
use Rattle.std.specs.Str.Lossy.{utf8_valid_len, utf8_lossy}
use Rattle.std.proofs.Math.Utf8.{encode}
use Rattle.msi_pool.specs.Pool.{Pool, PoolEntry, place, place_among, with_refcount_up, with_refcount_down, pool_stream}
use Rattle.msi_pool.specs.PoolReading.{begun, pool_of}
use Rattle.msi_texts.specs.Results.{◌>>=◌}
use Rattle.cfb_medium.specs.declared.error.Error.{Error}
use Rattle.cfb_medium.specs.declared.error.Error.TheVariants.{InvalidData, UnexpectedEof}
use Rattle.msi_texts.specs.declared.codepage.CodePage.TheVariants as page

abbrev empty_pool : Pool
empty_pool = record { page = page.Utf8; long = false; places = [] }

empty_text_written : pool_stream (record empty_pool { places = with_refcount_up [] [] }) ≡ 0xE9 ∷ 0xFD ∷ 0 ∷ 0 ∷ 0 ∷ 0 ∷ 1 ∷ 0 ∷ 0 ∷ 0 ∷ 0 ∷ 0 ∷ []
empty_text_written = refl

abbrev foobar : ℕ → PoolEntry
foobar n = record { text = codes "Foobar"; count = n }

second_place : place (record empty_pool { places = with_refcount_up (codes "Foobar") (foobar 65534 ∷ []) }) (codes "Foobar") ≡ Some 2
second_place = refl

second_use : with_refcount_up (codes "Foobar") (with_refcount_up (codes "Foobar") (foobar 65534 ∷ [])) ≡ foobar 65535 ∷ foobar 1 ∷ []
second_use = refl

-- a place that three uses left free is the least that is taken next
abbrev used_once : List ℕ → PoolEntry
used_once t = record { text = t; count = 1 }

abbrev three_left : List PoolEntry
three_left = with_refcount_down 3 (with_refcount_down 1 (with_refcount_down 2 (used_once (codes "Foo") ∷ used_once (codes "Bar") ∷ used_once (codes "Quux") ∷ [])))

least_taken : with_refcount_up (codes "Qux") (with_refcount_up (codes "Baz") three_left) ≡ used_once (codes "Baz") ∷ used_once (codes "Qux") ∷ record { text = []; count = 0 } ∷ []
least_taken = refl

-- a free place before one that holds the text
abbrev two_with_a_gap : List PoolEntry
two_with_a_gap = record { text = codes "A"; count = 65535 } ∷ record { text = []; count = 0 } ∷ used_once (codes "A") ∷ []

gap_is_taken : place_among (codes "A") two_with_a_gap ≡ 2
gap_is_taken = refl

gap_is_used_again : with_refcount_up (codes "A") (with_refcount_up (codes "A") two_with_a_gap) ≡ record { text = codes "A"; count = 65535 } ∷ record { text = codes "A"; count = 2 } ∷ used_once (codes "A") ∷ []
gap_is_used_again = refl

-- reading the two streams
abbrev read_both : List ℕ → List ℕ → Result Pool Error
read_both heads texts = begun heads >>= λ b. pool_of b texts

abbrev two_texts : Pool
two_texts = record { page = page.Utf8; long = false; places = record { text = codes "Foo"; count = 2 } ∷ record { text = codes "Quux"; count = 7 } ∷ [] }

two_read : read_both (0xE9 ∷ 0xFD ∷ 0 ∷ 0 ∷ 3 ∷ 0 ∷ 2 ∷ 0 ∷ 4 ∷ 0 ∷ 7 ∷ 0 ∷ []) (codes "FooQuux") ≡ Ok two_texts
unfolding utf8_lossy utf8_valid_len is_utf8 chars encode
two_read = refl

three_bytes_read : read_both (0xE4 ∷ 4 ∷ 0 ∷ 0x80 ∷ 3 ∷ 0 ∷ 2 ∷ 0 ∷ 4 ∷ 0 ∷ 7 ∷ 0 ∷ []) (codes "FooQuux") ≡ Ok (record two_texts { page = page.Windows1252; long = true })
unfolding chars encode
three_bytes_read = refl

rest_ignored : read_both (0xE4 ∷ 4 ∷ 0 ∷ 0 ∷ 9 ∷ []) [] ≡ Ok (record { page = page.Windows1252; long = false; places = [] })
rest_ignored = refl

longer_rest : read_both (0xE4 ∷ 4 ∷ 0 ∷ 0 ∷ 3 ∷ 0 ∷ 2 ∷ []) [] ≡ Err UnexpectedEof
longer_rest = refl

texts_missing : read_both (0xE4 ∷ 4 ∷ 0 ∷ 0 ∷ 3 ∷ 0 ∷ 2 ∷ 0 ∷ []) (codes "Fo") ≡ Err UnexpectedEof
texts_missing = refl

empty_text_read : read_both (0xE4 ∷ 4 ∷ 0 ∷ 0 ∷ 0 ∷ 0 ∷ 1 ∷ 0 ∷ 0 ∷ 0 ∷ 0 ∷ 0 ∷ []) [] ≡ Ok (record { page = page.Windows1252; long = false; places = record { text = []; count = 1 } ∷ [] })
empty_text_read = refl

long_head_read : begun (0xE4 ∷ 4 ∷ 0 ∷ 0 ∷ 0 ∷ 0 ∷ 1 ∷ 0 ∷ 0x70 ∷ 0x11 ∷ 1 ∷ 0 ∷ []) ≡ Ok (record { page = page.Windows1252; long = false; heads = (70000, 1) ∷ [] })
long_head_read = refl

unknown_page : read_both (0x40 ∷ 0xE2 ∷ 1 ∷ 0 ∷ []) [] ≡ Err InvalidData
unknown_page = refl
