-- The string pool in UTF-8, of texts in a page of one's choice.
use Rattle.std.specs.Prelude.{ℕ, ◌+◌, ◌^◌, ◌==◌, ◌&&◌, ◌||◌, Bool, not, if◌then◌else◌, List, [], ◌∷◌, ◌++◌, map, length, nat_lt, nat_le, Result, Ok}
use Rattle.std.specs.Borrow.{Bor}
use Rattle.std.specs.List.{list_all}
use Rattle.cfb_medium.specs.declared.error.Error.{Error}
use Rattle.cfb_medium.specs.declared.error.Error.TheVariants.{InvalidData, InvalidInput}
use Rattle.msi_pool.specs.Pool.{Pool, PoolEntry, StoredText, data_stream, pool_stream}
use Rattle.msi_pool.specs.PoolReading.{Heads, heads_at, texts_at}
use Rattle.msi_pool.specs.PoolState.{length_limit}
use Rattle.msi_texts.specs.Reading.{number_at}
use Rattle.msi_texts.specs.Results.{◌>>=◌, unless_not}
use Rattle.msi_texts.specs.declared.codepage.CodePage.TheVariants.{Utf8}
use Rattle.reread_texts.specs.Texts.{all_have_characters, text_of}
use Rattle.reread_texts.specs.declared.page.TextPage.{TextPage}

-- a text and its count, as memory has them
abbrev pub text_seen : Bor (List ℕ) × ℕ → StoredText
text_seen s = (s.0.now, s.1)

-- an entry as the page reads it, with the count that is stored
abbrev pub entry_by : TextPage → StoredText → PoolEntry
entry_by p s = record { text = text_of p s.0; count = s.1 }

-- THE POOL whose texts are those that the page reads
abbrev pub pool_by : TextPage → Bool → List StoredText → Pool
pool_by p long stored = record { page = Utf8; long = long; places = map (entry_by p) stored }

-- its length can be written, which for a text that no cell counts has two bytes
abbrev pub can_be_written : TextPage → StoredText → Bool
can_be_written p s = let len = length (text_of p s.0) in nat_lt len (if s.1 == 0 then 2 ^ 16 else length_limit)

-- the place of a text, where bytes of it have no character
abbrev pub lacking_place : TextPage → ℕ → StoredText → List ℕ
lacking_place p n s = if all_have_characters p s.0 then [] else (n ∷ [])

-- the places of the texts, the first of which has number n, where bytes have no character
abbrev pub lacking_from : TextPage → ℕ → List StoredText → List ℕ
lacking_from p n [] = []
lacking_from p n (s ∷ ss) = lacking_place p n s ++ lacking_from p (n + 1) ss

-- what the first stream tells of the second, whatever page it names: whether references take three bytes, and the heads
abbrev pub heads_stored : List ℕ → Result (Bool × Heads) Error
heads_stored bytes =
    number_at 4 bytes >>= λ id.
    heads_at (length id.1) id.1 >>= λ heads.
    unless_not (nat_lt (length heads) (2 ^ 32)) InvalidData >>= λ _.
    Ok (nat_le (2 ^ 31) id.0, heads)

-- two streams that are written, and the places where bytes of texts have no character
abbrev pub Rewritten : Type 0
Rewritten = List ℕ × List ℕ × List ℕ

-- those of texts
abbrev pub rewritten_by : TextPage → Bool → List StoredText → Rewritten
rewritten_by p long stored = (pool_stream (pool_by p long stored), data_stream (pool_by p long stored), lacking_from p 1 stored)

-- where they can be written
abbrev pub written_by : TextPage → Bool → List StoredText → Result Rewritten Error
written_by p long stored = unless_not (list_all (can_be_written p) stored) InvalidInput >>= λ _. Ok (rewritten_by p long stored)

-- THE TWO STREAMS IN UTF-8, of two streams whose texts the page reads
abbrev pub pool_reread : TextPage → List ℕ → List ℕ → Result Rewritten Error
pool_reread p pool_bytes data_bytes = heads_stored pool_bytes >>= λ begun. texts_at begun.1 data_bytes >>= λ stored. written_by p begun.0 stored
