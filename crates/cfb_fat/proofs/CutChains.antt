-- A chain of a table's front is one of the table.
use Rattle.std.proofs.Common.{◌≡◌, ℕ, ◌<◌, List, [], ◌∷◌, take, arith, zero, suc}
use Rattle.std.specs.Prelude.{slice_get, Some}
use Rattle.cfb_sectors.specs.Sectors.{Chain}

pub get_of_cut : (n : ℕ) (table : List ℕ) (i x : ℕ) → slice_get (take n table) i ≡ Some x → slice_get table i ≡ Some x
get_of_cut zero table i x found = absurd (cc)
get_of_cut (suc n) [] i x found = found
get_of_cut (suc n) (y ∷ table) zero x found = found
get_of_cut (suc n) (y ∷ table) (suc i) x found = get_of_cut n table i x found

pub get_in_cut : (n : ℕ) (table : List ℕ) (i x : ℕ) → i < n → slice_get table i ≡ Some x → slice_get (take n table) i ≡ Some x
get_in_cut zero table i x below found = absurd (omega (arith, below))
get_in_cut (suc n) [] i x below found = found
get_in_cut (suc n) (y ∷ table) zero x below found = found
get_in_cut (suc n) (y ∷ table) (suc i) x below found = get_in_cut n table i x (omega (arith, below)) found

pub chain_of_cut : (n : ℕ) (table : List ℕ) (start : ℕ) (ids : List ℕ) → Chain (take n table) start ids → Chain table start ids
chain_of_cut n table start [] is = is
chain_of_cut n table start (x ∷ ids) (is, regular, next, found, rest) = (is, regular, next, get_of_cut n table start next found, chain_of_cut n table next ids rest)
