-- Parts that are marked one after the other.
use Rattle.std.proofs.Common.{◌≡◌, ℕ, ◌+◌, ◌<◌, ◌≤◌, Bool, true, false, List, [], ◌∷◌, ◌++◌, length, drop, take, get_or, zero, suc, refl, ap, sym, subst, ◌∙◌, arith}
use Rattle.std.proofs.Math.Seq.{drop-cons}
use Rattle.std.proofs.lemmas.List.{take-append-drop}
use Rattle.std.specs.Prelude.{if◌then◌else◌, nat_eq, slice_index_or}
use Rattle.std.specs.List.{AllByRecursion}
use Rattle.cfb_soundness.specs.Marks.{mark, times, CanTake, MarksEachOnce}

pub drop_more : (xs : List ℕ) (i : ℕ) → i < length xs → drop i xs ≡ get_or xs i 0 ∷ drop (i + 1) xs
drop_more xs i below = drop-cons xs i 0 below ∙ ap (λ k. get_or xs i 0 ∷ drop k xs) (let one : suc i ≡ i + 1 = omega arith in one)

-- a list in front of a place, there, and behind it
pub parted : (xs : List ℕ) (i : ℕ) → i < length xs → xs ≡ take i xs ++ (get_or xs i 0 ∷ drop (i + 1) xs)
parted xs i below = sym (take-append-drop i xs) ∙ ap (λ ys. take i xs ++ ys) (drop_more xs i below)

pub times_append : (n : ℕ) (xs ys : List ℕ) → times n (xs ++ ys) ≡ times n xs + times n ys
times_append n [] ys = omega arith
times_append n (x ∷ xs) ys = omega (arith, times_append n xs ys)

pub all_front : {X : Type 0} (P : X → Type 0) (xs ys : List X) → AllByRecursion P (xs ++ ys) → AllByRecursion P xs × AllByRecursion P ys
all_front P [] ys all = (tt, all)
all_front P (x ∷ xs) ys all = let rest = all_front P xs ys all.1 in ((all.0, rest.0), rest.1)

pub all_mapped : {X : Type 0} (P Q : X → Type 0) → ((x : X) → P x → Q x) → (xs : List X) → AllByRecursion P xs → AllByRecursion Q xs
all_mapped P Q so [] all = tt
all_mapped P Q so (x ∷ xs) all = (so x all.0, all_mapped P Q so xs all.1)

pub takes_none : (marks : List Bool) → MarksEachOnce [] marks marks
takes_none marks = record { size = refl; marks = λ n. omega arith }

pub takes_then : (xs ys : List ℕ) (a b c : List Bool) → MarksEachOnce xs a b → MarksEachOnce ys b c → MarksEachOnce (xs ++ ys) a c
takes_then xs ys a b c first second = record {
  size = second.size ∙ first.size;
  marks = λ n. omega (arith, first.marks n, second.marks n, times_append n xs ys);
}

pub can_take_rest : (xs ys : List ℕ) (a b : List Bool) → MarksEachOnce xs a b → CanTake (xs ++ ys) a → CanTake ys b
can_take_rest xs ys a b first can = record {
  there = all_mapped (λ n. n < length a) (λ n. n < length b) (λ n below. omega (arith, first.size, below)) ys (all_front (λ n. n < length a) xs ys can.there).1;
  once = λ n. omega (arith, first.marks n, can.once n, times_append n xs ys);
}

pub can_take_front : (xs ys : List ℕ) (a : List Bool) → CanTake (xs ++ ys) a → CanTake xs a
can_take_front xs ys a can = record {
  there = (all_front (λ n. n < length a) xs ys can.there).0;
  once = λ n. omega (arith, can.once n, times_append n xs ys);
}

marked_below : (marks : List Bool) (n : ℕ) → 1 ≤ mark marks n → n < length marks
marked_below [] n some_mark = absurd (omega (arith, some_mark))
marked_below (b ∷ marks) zero some_mark = omega arith
marked_below (b ∷ marks) (suc n) some_mark = omega (arith, marked_below marks n some_mark)

mark_one : (marks : List Bool) (n : ℕ) → mark marks n ≤ 1
mark_one marks n = by_test (slice_index_or marks n false)
  where
    by_test : (b : Bool) → (if b then 1 else 0) ≤ 1
    by_test true = omega arith
    by_test false = omega arith

all_below : (marks : List Bool) (xs : List ℕ) → ((n : ℕ) → times n xs ≤ mark marks n) → AllByRecursion (λ n. n < length marks) xs
all_below marks [] few = tt
all_below marks (x ∷ xs) few =
    let same : nat_eq x x ≡ true = grind arith in
    let here : times x (x ∷ xs) ≡ 1 + times x xs = rw same refl in
    (marked_below marks x (omega (arith, few x, here)), all_below marks xs (λ n. omega (arith, few n)))

-- what was marked could be
pub could_take : (xs : List ℕ) (a b : List Bool) → MarksEachOnce xs a b → CanTake xs a
could_take xs a b took = record {
  there = subst (λ n. AllByRecursion (λ k. k < n) xs) took.size (all_below b xs (λ n. omega (arith, took.marks n)));
  once = λ n. omega (arith, took.marks n, mark_one b n);
}
