-- Uses that are counted: those of parts one by one, and those of whole chains.
use Rattle.std.proofs.Common.{⊎_elim, ◌≡◌, ◌∙◌, ℕ, zero, suc, ◌+◌, ◌<◌, ◌≤◌, min, true, false, List, [], ◌∷◌, ◌++◌, length, get_or, set, take, refl, sym, ap, subst, append_assoc, length-append, arith}
use Rattle.std.specs.Prelude.{Some, nat_eq, slice_get, slice_index, slice_index_or}
use Rattle.std.proofs.lemmas.List.{take_more}
use Rattle.std.proofs.lemmas.Bool.Decides.{eqb_tells, leb_tells}
use Rattle.std.proofs.lemmas.Option.{slice_get_within}
use Rattle.cfb_sectors.specs.Sectors.{end_of_chain, greatest_regular, Chain}
use Rattle.cfb_sectors.proofs.OneChain.{chain_unique}
use Rattle.cfb_soundness.specs.Marks.{times}
use Rattle.cfb_soundness.proofs.Taking.{times_append}
use Rattle.cfb_findings.specs.Counted.{left_to_count, CountsMatchUses, FollowLinks}
use Rattle.cfb_findings.specs.Links.{behind}
use Rattle.cfb_findings.proofs.Linking.{behind_regular, entry_at}

-- a count that rises leaves less to count
pub left_less : (cs : List ℕ) (i v w : ℕ) → i < length cs → v ≡ slice_index_or cs i v → w ≡ slice_index_or cs i w → w < 2
    → left_to_count (set cs i (v + 1)) < left_to_count cs
left_less [] i v w below is was few = absurd (omega (arith, below))
left_less (c ∷ cs) zero v w below is was few = omega (arith, is, was, few)
left_less (c ∷ cs) (suc i) v w below is was few = omega (arith, left_less cs i v w (omega (arith, below)) is was few)

times_at : (n m : ℕ) (xs : List ℕ) → n ≡ m → times n (m ∷ xs) ≡ 1 + times n xs
times_at n m xs same = let test : nat_eq n m ≡ true = grind arith in rw test refl

pub times_other : (n m : ℕ) (xs : List ℕ) → (n ≡ m → ⊥) → times n (m ∷ xs) ≡ times n xs
times_other n m xs other = let test : nat_eq n m ≡ false = grind arith in rw test (omega arith)

times_least : (n m : ℕ) (xs : List ℕ) → times n xs ≤ times n (m ∷ xs)
times_least n m xs = omega arith

-- counts of a list are those of another with the same parts
pub same_counts : (xs ys cs : List ℕ) → ((n : ℕ) → times n xs ≡ times n ys) → CountsMatchUses xs cs → CountsMatchUses ys cs
same_counts xs ys cs same so n below = so n below ∙ ap (λ k. min 2 k) (same n)

pub counts_more : (parts before cs : List ℕ) (i : ℕ) → i < length parts → CountsMatchUses (get_or parts i 0 ∷ (take i parts ++ before)) cs
    → CountsMatchUses (take (i + 1) parts ++ before) cs
counts_more parts before cs i below so =
    let x = get_or parts i 0 in
    same_counts (x ∷ (take i parts ++ before)) (take (i + 1) parts ++ before) cs
    (λ n. omega (arith, times_append n (take i parts) before, times_append n (take (i + 1) parts) before, ap (times n) (take_more parts i 0 below), times_append n (take i parts) (x ∷ [])))
    so

-- a walk along a chain: these are its parts so far, and those to come
pub record Walked (links ids before : List ℕ) (at : ℕ) (counts : List ℕ) : Type 0 where
  pub front : List ℕ
  pub rest : List ℕ
  pub parted : ids ≡ front ++ rest
  pub chain : Chain links at rest
  pub counted : CountsMatchUses (front ++ before) counts

pub walk_begins : (links ids before : List ℕ) (start : ℕ) (cs : List ℕ) → Chain links start ids → CountsMatchUses before cs → Walked links ids before start cs
walk_begins links ids before start cs chain so = record { front = []; rest = ids; parted = refl; chain = chain; counted = so }

goes : (links ids before cs ds : List ℕ) (at : ℕ) (front rest : List ℕ) → ids ≡ front ++ rest → Chain links at rest → CountsMatchUses (front ++ before) cs
    → at ≤ greatest_regular → ((parts : List ℕ) → CountsMatchUses parts cs → CountsMatchUses (at ∷ parts) ds) → Walked links ids before (behind links at) ds
goes links ids before cs ds at front [] parted chain so low step = absurd (omega (arith, chain, low))
goes links ids before cs ds at front (x ∷ rest) parted (is, regular, next, found, more) so low step =
    let here : behind links at ≡ next = behind_regular links at regular ∙ entry_at links at at next found in
    record {
      front = front ++ (x ∷ []);
      rest = rest;
      parted = parted ∙ sym (append_assoc front (x ∷ []) rest);
      chain = subst (λ n. Chain links n rest) (sym here) more;
      counted = same_counts (at ∷ (front ++ before)) ((front ++ (x ∷ [])) ++ before) ds
          (λ n. omega (arith, times_append n front before, times_append n (front ++ (x ∷ [])) before, times_append n front (x ∷ []), ap (λ k. times n (k ∷ [])) is))
          (step (front ++ before) so);
    }

pub walk_goes : (links ids before cs ds : List ℕ) (at : ℕ) → Walked links ids before at cs → at ≤ greatest_regular
    → ((parts : List ℕ) → CountsMatchUses parts cs → CountsMatchUses (at ∷ parts) ds) → Walked links ids before (behind links at) ds
walk_goes links ids before cs ds at w low step = goes links ids before cs ds at w.front w.rest w.parted w.chain w.counted low step

ends : (links ids before cs : List ℕ) (at : ℕ) (front rest : List ℕ) → ids ≡ front ++ rest → Chain links at rest → CountsMatchUses (front ++ before) cs
    → greatest_regular < at → CountsMatchUses (ids ++ before) cs
ends links ids before cs at front [] parted chain so high =
    same_counts (front ++ before) (ids ++ before) cs
    (λ n. omega (arith, times_append n front before, times_append n ids before, ap (times n) parted, times_append n front []))
    so
ends links ids before cs at front (x ∷ rest) parted (is, regular, next, found, more) so high = absurd (omega (arith, regular, high))

-- at the end of a chain all of it is counted
pub walk_ends : (links ids before cs : List ℕ) (at : ℕ) → Walked links ids before at cs → greatest_regular < at → CountsMatchUses (ids ++ before) cs
walk_ends links ids before cs at w high = ends links ids before cs at w.front w.rest w.parted w.chain w.counted high

-- a chain doesn't come to a part again
not_before : (links : List ℕ) (start : ℕ) (front rest : List ℕ) (at : ℕ) → Chain links start (front ++ rest) → Chain links at rest → 1 ≤ times at front → ⊥
not_before links start [] rest at chain here some = omega (arith, some)
not_before links start (x ∷ front) rest at (is, regular, next, found, more) here some = ⊎_elim
    (λ same.
    let again : Chain links at (x ∷ (front ++ rest)) = subst (λ s. Chain links s (x ∷ (front ++ rest))) (sym is ∙ sym same.1) (is, regular, next, found, more) in
    let long : rest ≡ x ∷ (front ++ rest) = chain_unique links at rest (x ∷ (front ++ rest)) here again in
    omega (arith, ap length long, length-append front rest))
    (λ other. not_before links next front rest at more here (omega (arith, some, times_other at x front other.1)))
    (eqb_tells at x)

goes_on : (links : List ℕ) (next : ℕ) (rest : List ℕ) (n : ℕ) → Chain links next rest → 1 ≤ times n rest → next ≡ end_of_chain → ⊥
goes_on links next [] n chain some is = omega (arith, some)
goes_on links next (y ∷ rest) n (same, regular, after, found, more) some is = omega (arith, regular, is)

-- behind a part that stands twice in whole chains all stand twice
twice_on : (links before : List ℕ) (at : ℕ) (rest : List ℕ) → FollowLinks links before → Chain links at rest → 2 ≤ times at before → (n : ℕ) → 1 ≤ times n rest → 2 ≤ times n before
twice_on links before at [] follow chain two n some = absurd (omega (arith, some))
twice_on links before at (x ∷ rest) follow (is, regular, next, found, more) two n some = ⊎_elim
    (λ same. subst (λ k. 2 ≤ times k before) (sym (same.1 ∙ is)) two)
    (λ other.
    let later : 1 ≤ times n rest = omega (arith, some, times_other n x rest other.1) in
    let step : times at before ≤ times next before = follow at next found (goes_on links next rest n more later) in
    twice_on links before next rest follow more (omega (arith, two, step)) n later)
    (eqb_tells n x)

stops : (links ids before cs ds : List ℕ) (start at : ℕ) (front rest : List ℕ) → ids ≡ front ++ rest → Chain links start ids → Chain links at rest
    → CountsMatchUses (front ++ before) cs → at ≤ greatest_regular → length links ≤ length cs → (at < length cs → 2 ≤ slice_index cs at) → FollowLinks links before
    → CountsMatchUses (at ∷ (front ++ before)) ds → CountsMatchUses (ids ++ before) ds
stops links ids before cs ds start at front [] parted whole chain so low room full follow new n below = absurd (omega (arith, chain, low))
stops links ids before cs ds start at front (x ∷ rest) parted whole (is, regular, next, found, more) so low room full follow new n below =
    let inside : at < length cs = omega (arith, slice_get_within links at next found, room) in
    let none : 1 ≤ times at front → ⊥ = λ some. not_before links start front (x ∷ rest) at (subst (Chain links start) parted whole) (is, regular, next, found, more) some in
    let two : 2 ≤ times at before = ⊎_elim
    (λ some. absurd (none some.1))
    (λ few. omega (arith, few.1, full inside, so at inside, times_append at front before))
    (leb_tells 1 (times at front)) in
    let total = times_append n ids before in
    let parts = ap (times n) parted ∙ times_append n front (x ∷ rest) in
    let others = times_append n front before in
    let first : times n (x ∷ []) ≡ times n (at ∷ []) = ap (λ k. times n (k ∷ [])) is in
    new n below ∙ ⊎_elim
    (λ some. let there : 2 ≤ times n before = twice_on links before at (x ∷ rest) follow (is, regular, next, found, more) two n some.1 in
    omega (arith, there, total, others, parts))
    (λ few. omega (arith, few.1, total, others, parts, first))
    (leb_tells 1 (times n (x ∷ rest)))

-- where a part is counted twice already, so are all behind it
pub walk_stops : (links ids before cs ds : List ℕ) (start at : ℕ) → Walked links ids before at cs → Chain links start ids → at ≤ greatest_regular → length links ≤ length cs
    → (at < length cs → 2 ≤ slice_index cs at) → FollowLinks links before → ((parts : List ℕ) → CountsMatchUses parts cs → CountsMatchUses (at ∷ parts) ds) → CountsMatchUses (ids ++ before) ds
walk_stops links ids before cs ds start at w whole low room full follow step =
    stops links ids before cs ds start at w.front w.rest w.parted whole w.chain w.counted low room full follow (step (w.front ++ before) w.counted)

follows_tail : (links : List ℕ) (start x : ℕ) (xs : List ℕ) (n m : ℕ) → Chain links start (x ∷ xs) → slice_get links n ≡ Some m → (m ≡ end_of_chain → ⊥) → times n (x ∷ xs) ≤ times m xs
follows_tail links start x [] n m (is, regular, next, found, more) at on = ⊎_elim
    (λ same. let e : n ≡ x = same.1 in let k : m ≡ next = cc in absurd (on (k ∙ more)))
    (λ other. omega (arith, times_other n x [] other.1))
    (eqb_tells n x)
follows_tail links start x (y ∷ ys) n m (is, regular, next, found, more) at on =
    let later : times n (y ∷ ys) ≤ times m ys = follows_tail links next y ys n m more at on in ⊎_elim
    (λ same.
    let e : n ≡ x = same.1 in
    let k : m ≡ next = cc in
    let h : m ≡ y = k ∙ sym more.0 in
    omega (arith, later, times_at n x (y ∷ ys) e, times_at m y ys h))
    (λ other. omega (arith, later, times_other n x (y ∷ ys) other.1, times_least m y ys))
    (eqb_tells n x)

pub chain_follows : (links : List ℕ) (start : ℕ) (ids : List ℕ) → Chain links start ids → FollowLinks links ids
chain_follows links start [] chain n m at on = omega arith
chain_follows links start (x ∷ xs) chain n m at on = omega (arith, follows_tail links start x xs n m chain at on, times_least m x xs)

pub follow_both : (links xs ys : List ℕ) → FollowLinks links xs → FollowLinks links ys → FollowLinks links (xs ++ ys)
follow_both links xs ys first second n m at on = omega (arith, first n m at on, second n m at on, times_append n xs ys, times_append m xs ys)

pub walk_goes_to : (links ids before cs ds : List ℕ) (at next : ℕ) → next ≡ behind links at → Walked links ids before at cs → at ≤ greatest_regular
    → ((parts : List ℕ) → CountsMatchUses parts cs → CountsMatchUses (at ∷ parts) ds) → Walked links ids before next ds
walk_goes_to links ids before cs ds at next is w low step = subst (λ n. Walked links ids before n ds) (sym is) (walk_goes links ids before cs ds at w low step)
