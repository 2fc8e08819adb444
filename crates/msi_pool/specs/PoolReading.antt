-- How the pool's two streams are read, with their refusals.
use Rattle.std.specs.Prelude.{ℕ, zero, suc, ◌-◌, ◌^◌, Bool, ◌&&◌, List, [], ◌∷◌, map, length, nat_lt, nat_le, ◌==◌, if◌then◌else◌, sum_by, Result, Ok, bytes_eq}
use Rattle.std.specs.List.{list_all}
use Rattle.msi_texts.specs.Results.{◌>>=◌, unless_not, or_refused}
use Rattle.msi_texts.specs.Reading.{bytes_at, number_at}
use Rattle.msi_texts.specs.Page.{encoded, decoded, page_id}
use Rattle.msi_pool.specs.Pool.{Pool, PoolEntry, StoredText}
use Rattle.msi_texts.specs.declared.codepage.CodePage.{CodePage}
use Rattle.cfb_medium.specs.declared.error.Error.{Error}
use Rattle.cfb_medium.specs.declared.error.Error.TheVariants.{InvalidData}

-- the length and the count of each place
abbrev pub Heads : Type 0
Heads = List (ℕ × ℕ)

-- the length behind a head, where its own is 0 and its count is not
abbrev pub length_at : ℕ → ℕ → List ℕ → Result (ℕ × List ℕ) Error
length_at len count bytes = if len == 0 && nat_lt 0 count then number_at 4 bytes else Ok (len, bytes)

-- the length and the count of the next place
abbrev pub head_at : List ℕ → Result ((ℕ × ℕ) × List ℕ) Error
head_at bytes = number_at 2 bytes >>= λ len. number_at 2 len.1 >>= λ count. length_at len.0 count.0 count.1 >>= λ own. Ok ((own.0, count.0), own.1)

-- the heads of at most so many places; a rest of at most one byte is ignored
abbrev pub heads_at : ℕ → List ℕ → Result Heads Error
heads_at zero bytes = Ok []
heads_at (suc most) bytes =
    if nat_lt (length bytes) 2 then Ok []
    else (head_at bytes >>= λ head. heads_at most head.1 >>= λ heads. Ok (head.0 ∷ heads))

-- what the first stream tells: the page, the width of references, and the heads
pub record Begun : Type 0 where
  pub page : CodePage
  pub long : Bool
  pub heads : Heads

-- the number of a page without the bit for references of three bytes
abbrev pub page_number : ℕ → ℕ
page_number n = if nat_le (2 ^ 31) n then n - 2 ^ 31 else n

-- the first stream
abbrev pub begun : List ℕ → Result Begun Error
begun bytes =
    number_at 4 bytes >>= λ id.
    or_refused (page_id (page_number id.0)) InvalidData >>= λ page.
    heads_at (length id.1) id.1 >>= λ heads.
    unless_not (nat_lt (length heads) (2 ^ 32)) InvalidData >>= λ _.
    Ok (record { page = page; long = nat_le (2 ^ 31) id.0; heads = heads })

-- the bytes of each text, one after the other; what is left over is ignored
abbrev pub texts_at : Heads → List ℕ → Result (List StoredText) Error
texts_at [] bytes = Ok []
texts_at (h ∷ hs) bytes = bytes_at h.0 bytes >>= λ b. texts_at hs b.1 >>= λ stored. Ok ((b.0, h.1) ∷ stored)

-- a place as it is read
abbrev pub place_read : CodePage → StoredText → PoolEntry
place_read page s = record { text = decoded page s.0; count = s.1 }

-- all of them
abbrev pub places_at : CodePage → Heads → List ℕ → Result (List PoolEntry) Error
places_at page heads bytes = texts_at heads bytes >>= λ stored. Ok (map (place_read page) stored)

-- the number of bytes of all texts
abbrev pub text_len : Heads → ℕ
text_len heads = sum_by (λ h. h.0) heads

-- the second stream
abbrev pub pool_of : Begun → List ℕ → Result Pool Error
pool_of b bytes = places_at b.page b.heads bytes >>= λ places. Ok (record { page = b.page; long = b.long; places = places })

-- the bytes of a text are those that it is written as
abbrev pub text_round_trips : CodePage → List ℕ → Bool
text_round_trips page bytes = bytes_eq (encoded page (decoded page bytes)) bytes

-- so are those of all texts
abbrev pub stored_give_back : CodePage → Heads → List ℕ → Result Bool Error
stored_give_back page heads bytes = texts_at heads bytes >>= λ stored. Ok (list_all (λ s. text_round_trips page s.0) stored)

-- the same of the second stream
abbrev pub texts_give_back : Begun → List ℕ → Result Bool Error
texts_give_back b bytes = stored_give_back b.page b.heads bytes
