use Rattle.std.proofs.Common.{false, ◌≡◌, ℕ, zero, suc, ◌+◌, ◌<◌, ◌≤◌, ◌⊎◌, inl, inr, map, length, ap, sym, ◌∙◌, arith}
use Rattle.std.specs.Prelude.{nat_eq, Result, Ok, Err, IfErr}
use Rattle.std.specs.Char.Escape.{encode_utf16}
use Rattle.std.specs.List.{AllByRecursion, IsDistinct, range_with_len}
use Rattle.std.proofs.lemmas.Bool.Decides.{nat_tests}
use Rattle.cfb_medium.specs.declared.error.Error.{Error}
use Rattle.cfb_medium.specs.declared.error.Error.TheVariants.{InvalidInput, Memory}
use Rattle.cfb_tree.specs.Names.{ascii_letters, AreLetters, CaseTable}
use Rattle.cfb_tree.proofs.NamesRead.{one_unit}
use Rattle.cfb_tree.proofs.letters.CaseMapper.ascii.Goals as goal

abbrev pair_at : ℕ → ℕ × ℕ
pair_at i = (97 + i, 65 + i)

later : (n a b : ℕ) → a < b → AllByRecursion (λ y. nat_eq (97 + a) y ≡ false) (map (λ pair. pair.0) (map pair_at (range_with_len b n)))
later zero a b h = tt
later (suc n) a b h = (grind (arith, nat_tests), later n a (b + 1) (omega arith))

distinct : (n a : ℕ) → IsDistinct nat_eq (map (λ pair. pair.0) (map pair_at (range_with_len a n)))
unfolding IsDistinct
distinct zero a = tt
distinct (suc n) a = (later n a (a + 1) (omega arith), distinct n (a + 1))

long : (n a : ℕ) → a + n ≤ 26 → AllByRecursion (λ pair. length (encode_utf16 pair.0) ≡ length (encode_utf16 pair.1)) (map pair_at (range_with_len a n))
long zero a h = tt
long (suc n) a h = (ap length (one_unit (97 + a) (omega arith)) ∙ sym (ap length (one_unit (65 + a) (omega arith))), long n (a + 1) (omega arith))

only_memory : {A : Type 0} (r : Result A Error) (letters : CaseTable) → AreLetters letters → IfErr r (λ e. (e ≡ Memory) ⊎ ((e ≡ InvalidInput) × (AreLetters letters → ⊥))) → IfErr r (λ e. e ≡ Memory)
only_memory (Ok x) letters are h = h
only_memory (Err e) letters are (inl memory) = memory
only_memory (Err e) letters are (inr refused) = absurd (refused.1 are)

pub returns-clause-errors : goal.returns-clause-errors
returns-clause-errors c = only_memory c.new.result ascii_letters (record { once = distinct 26 0; as_long = long 26 0 (omega arith) }) c.new.ensures.errors
