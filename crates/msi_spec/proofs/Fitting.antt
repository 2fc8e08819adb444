-- Pools that are fit can be written.
use Rattle.std.proofs.Common.{◌≡◌, ℕ, ◌<◌, ◌^◌, true, List, [], ◌∷◌, map, length, arith}
use Rattle.std.specs.Prelude.{All, IsTrue, nat_lt}
use Rattle.std.specs.List.{list_all}
use Rattle.std.specs.Str.{is_utf8}
use Rattle.std.proofs.lemmas.Bool.{and_parts}
use Rattle.std.proofs.lemmas.Bool.Decides.{nat_tests}
use Rattle.std.proofs.lemmas.List.Elements.{All-head, All-tail}
use Rattle.msi_texts.specs.Page.{encoded, fits}
use Rattle.msi_texts.specs.declared.codepage.CodePage.{CodePage}
use Rattle.msi_pool.specs.Pool.{PoolEntry, Pool, pool_stream, stored_of, stored_place}
use Rattle.msi_pool.specs.PoolKept.{AreFreeEmpty, AreKept, IsWritable}
use Rattle.msi_pool.specs.PoolState.{is_in_size, length_limit}
use Rattle.msi_spec.specs.Writable.{is_fit_pool}

abbrev IsHeld : PoolEntry → Type 0
IsHeld p = IsTrue (is_utf8 p.text) × (p.count < 2 ^ 16)

abbrev IsEmptyIfFree : PoolEntry → Type 0
IsEmptyIfFree p = p.count ≡ 0 → p.text ≡ []

below_32 : (n : ℕ) → nat_lt n length_limit ≡ true → n < 2 ^ 32
below_32 n e = grind (arith, nat_tests, e)

kept : (page : CodePage) (ps : List PoolEntry) → list_all (λ p. fits page p.text) ps ≡ true → list_all (λ s. nat_lt (length s.0) length_limit) (map (stored_place page) ps) ≡ true
    → All IsHeld ps → All IsEmptyIfFree ps → AreKept page ps
kept page [] fit short held free = tt
kept page (p ∷ ps) fit short held free =
    let one = and_parts (fits page p.text) (list_all (λ p. fits page p.text) ps) fit in
    let two = and_parts (nat_lt (length (encoded page p.text)) length_limit) (list_all (λ s. nat_lt (length s.0) length_limit) (map (stored_place page) ps)) short in
    let here = All-head IsHeld p ps held in (
      record { utf8 = here.0; fit = one.0; count = here.1; size = below_32 (length (encoded page p.text)) two.0; free = All-head IsEmptyIfFree p ps free },
      kept page ps one.1 two.1 (All-tail IsHeld p ps held) (All-tail IsEmptyIfFree p ps free),
    )

pub fit_pool_is_writable : (pool : Pool) → is_fit_pool pool ≡ true → All IsHeld pool.places → length pool.places < 2 ^ 32 → AreFreeEmpty pool.places → IsWritable pool
fit_pool_is_writable pool fit held few free =
    let one = and_parts (list_all (λ p. fits pool.page p.text) pool.places) (is_in_size pool) fit in
    let two = and_parts (nat_lt (length (pool_stream pool)) length_limit) (list_all (λ s. nat_lt (length s.0) length_limit) (stored_of pool)) one.1 in
    (kept pool.page pool.places one.0 two.1 held free, few)
