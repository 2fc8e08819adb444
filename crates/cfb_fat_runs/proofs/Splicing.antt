-- Runs that take the place of others, and the entries that they stand for.
use Rattle.std.proofs.Common.{◌≡◌, ◌≢◌, ◌+◌, ◌<◌, ◌≤◌, ℕ, zero, suc, List, [], ◌∷◌, ◌++◌, length, drop, get_or, refl, sym, ap, subst, ◌∙◌, arith, cond, ltb, ⊎_elim}
use Rattle.std.proofs.lemmas.Bool.{cases_lt, cond_above, cond_below}
use Rattle.std.proofs.lemmas.Bool.Decides.{eqb_tells}
use Rattle.cfb_sectors.specs.Sectors.{greatest_regular}
use Rattle.cfb_fat_runs.specs.Runs.{entry_at, entry_in, head_of, leading_to, tail_of, start_of, AreTiled, IsRight}
use Rattle.cfb_fat_runs.specs.declared.runs.Kind.{Kind}
use Rattle.cfb_fat_runs.specs.declared.runs.Kind.TheVariants.{Special, Linked}
use Rattle.cfb_fat_runs.specs.declared.runs.Run.{Run}

pub below : (k s x y : ℕ) → k < s → cond (ltb k s) x y ≡ x
below k s x y h = sym (cond_below k s x y h)

pub above : (k s x y : ℕ) → s ≤ k → cond (ltb k s) x y ≡ y
above k s x y h = sym (cond_above k s x y y h refl)

-- an entry that isn't a run's last
inner : (next s k : ℕ) → k + 1 < s → entry_in (Linked next) s k ≡ k + 1
inner next s k h = ⊎_elim (λ same. absurd (let e = same.1 in omega (arith, e, h))) (λ off. rw (off.0) refl) (eqb_tells (k + 1) s)

-- a run begins at the front or behind it
pub first_least : (at stop p : ℕ) (runs : List Run) (d : Run) → AreTiled at stop runs → p < length runs → at ≤ (get_or runs p d).first
first_least at stop p [] d t h = absurd (omega (arith, h))
first_least at stop zero (r ∷ runs) d t h = let e = t.0 in omega (arith, e)
first_least at stop (suc p) (r ∷ runs) d t h = let more = first_least (start_of stop runs) stop p runs d t.3 (omega (arith, h)) in let less = t.1 in omega (arith, more, less)

-- an entry is what its run says
pub found : (at stop k p : ℕ) (runs : List Run) (d : Run) → AreTiled at stop runs → p < length runs → (get_or runs p d).first ≤ k → k < start_of stop (drop (suc p) runs)
    → entry_at stop runs k ≡ entry_in (get_or runs p d).kind (start_of stop (drop (suc p) runs)) k
found at stop k p [] d t h from to = absurd (omega (arith, h))
found at stop k zero (r ∷ runs) d t h from to = below k (start_of stop runs) _ _ to
found at stop k (suc p) (r ∷ runs) d t h from to =
    let inside : p < length runs = omega (arith, h) in
    let least = first_least (start_of stop runs) stop p runs d t.3 inside in
    above k (start_of stop runs) _ _ (omega (arith, least, from)) ∙ found (start_of stop runs) stop k p runs d t.3 inside from to

same_start : (stop : ℕ) (front xs ys : List Run) → start_of stop xs ≡ start_of stop ys → start_of stop (front ++ xs) ≡ start_of stop (front ++ ys)
same_start stop [] xs ys e = e
same_start stop (r ∷ front) xs ys e = refl

-- runs stay tiled where others take the place of the last ones
pub tiled_in : (at stop : ℕ) (front xs ys : List Run) → start_of stop xs ≡ start_of stop ys → ((m : ℕ) → AreTiled m stop xs → AreTiled m stop ys) → AreTiled at stop (front ++ xs) → AreTiled at stop (front ++ ys)
tiled_in at stop [] xs ys e f t = f at t
tiled_in at stop (r ∷ front) xs ys e f t =
    let s = same_start stop front xs ys e in
    (t.0, subst (λ n. at < n) s t.1, t.2, subst (λ n. AreTiled n stop (front ++ ys)) s (tiled_in (start_of stop (front ++ xs)) stop front xs ys e f t.3))

-- and so do entries
pub entry_in_place : (at stop k : ℕ) (front xs ys : List Run) → start_of stop xs ≡ start_of stop ys → AreTiled at stop (front ++ xs) → at ≤ k → (start_of stop xs ≤ k → entry_at stop xs k ≡ entry_at stop ys k)
    → entry_at stop (front ++ xs) k ≡ entry_at stop (front ++ ys) k
entry_in_place at stop k [] [] ys e t from f = f (let s : at ≡ stop = t in omega (arith, s, from))
entry_in_place at stop k [] (r ∷ xs) ys e t from f = f (let s = t.0 in omega (arith, s, from))
entry_in_place at stop k (r ∷ front) xs ys e t from f =
    let s = same_start stop front xs ys e in
    ⊎_elim
    (λ less. below k (start_of stop (front ++ xs)) _ _ less ∙ ap (λ n. entry_in r.kind n k) s ∙ sym (below k (start_of stop (front ++ ys)) _ _ (omega (arith, less, s))))
    (λ past. above k (start_of stop (front ++ xs)) _ _ past ∙ entry_in_place (start_of stop (front ++ xs)) stop k front xs ys e t.3 past f ∙ sym (above k (start_of stop (front ++ ys)) _ _ (omega (arith, past, s))))
    (cases_lt k (start_of stop (front ++ xs)))

right_head : (kind : Kind) (i : ℕ) → i ≤ greatest_regular → IsRight kind → IsRight (leading_to i kind)
right_head (Special n) i few right = right
right_head (Linked n) i few right = λ many. absurd (omega (arith, few, many))

pub cut_tiled : (m stop i : ℕ) (r : Run) (back : List Run) → r.first < i → i < start_of stop back → i ≤ greatest_regular → AreTiled m stop (r ∷ back) → AreTiled m stop (head_of r i ∷ tail_of r i ∷ back)
cut_tiled m stop i r back from to few t = (t.0, (let s = t.0 in omega (arith, s, from)), right_head r.kind i few t.2, (refl, to, t.2, t.3))

head_entry : (kind : Kind) (s i k : ℕ) → k < i → i < s → entry_in kind s k ≡ entry_in (leading_to i kind) i k
head_entry (Special n) s i k less inside = refl
head_entry (Linked n) s i k less inside = inner n s k (omega (arith, less, inside)) ∙ ⊎_elim
    (λ same. let e = same.1 in rw (same.0) e)
    (λ off. rw (off.0) refl)
    (eqb_tells (k + 1) i)

pub cut_entry : (stop i k : ℕ) (r : Run) (back : List Run) → i < start_of stop back → entry_at stop (r ∷ back) k ≡ entry_at stop (head_of r i ∷ tail_of r i ∷ back) k
cut_entry stop i k r back to = ⊎_elim
    (λ less. below k (start_of stop back) _ _ (omega (arith, less, to)) ∙ head_entry r.kind (start_of stop back) i k less to ∙ sym (below k i _ _ less))
    (λ past. sym (above k i _ _ past))
    (cases_lt k i)

-- a run of one sector gets another entry
pub relabelled : (stop k : ℕ) (r : Run) (kind : Kind) (back : List Run) → start_of stop back ≡ r.first + 1 → r.first ≤ k → k ≢ r.first → entry_at stop (r ∷ back) k ≡ entry_at stop (record { first = r.first; kind = kind } ∷ back) k
relabelled stop k r kind back one from off =
    let past : start_of stop back ≤ k = omega (arith, one, from, off) in
    above k (start_of stop back) _ _ past ∙ sym (above k (start_of stop back) _ _ past)

-- the last entry of a linked run is linked elsewhere
pub relinked : (stop k first old new : ℕ) (back : List Run) → k + 1 ≢ start_of stop back
    → entry_at stop (record { first = first; kind = Linked old } ∷ back) k ≡ entry_at stop (record { first = first; kind = Linked new } ∷ back) k
relinked stop k first old new back off = ⊎_elim
    (λ less. let inside : k + 1 < start_of stop back = omega (arith, less, off) in
    below k (start_of stop back) _ _ less ∙ inner old (start_of stop back) k inside ∙ sym (inner new (start_of stop back) k inside) ∙ sym (below k (start_of stop back) _ _ less))
    (λ past. above k (start_of stop back) _ _ past ∙ sym (above k (start_of stop back) _ _ past))
    (cases_lt k (start_of stop back))

-- the first entry of a run goes to the one in front, which repeats a number
pub shifted : (stop k first number : ℕ) (r : Run) (back : List Run) → k ≢ r.first
    → entry_at stop (record { first = first; kind = Special number } ∷ r ∷ back) k ≡ entry_at stop (record { first = first; kind = Special number } ∷ record { first = r.first + 1; kind = r.kind } ∷ back) k
shifted stop k first number r back off = ⊎_elim
    (λ less. below k r.first _ _ less ∙ sym (below k (r.first + 1) _ _ (omega (arith, less))))
    (λ past. above k r.first _ _ past ∙ sym (above k (r.first + 1) _ _ (omega (arith, past, off))))
    (cases_lt k r.first)

-- what is added behind all entries
pub pushed : (at stop k : ℕ) (runs : List Run) (kind : Kind) → AreTiled at stop runs → k < stop → at ≤ k → entry_at stop runs k ≡ entry_at (stop + 1) (runs ++ record { first = stop; kind = kind } ∷ []) k
pushed at stop k [] kind t less from = absurd (let s : at ≡ stop = t in omega (arith, s, less, from))
pushed at stop k (r ∷ runs) kind t less from = let s = behind stop runs kind in ⊎_elim
    (λ here. below k (start_of stop runs) _ _ here ∙ ap (λ n. entry_in r.kind n k) s ∙ sym (below k (start_of (stop + 1) (runs ++ record { first = stop; kind = kind } ∷ [])) _ _ (omega (arith, here, s))))
    (λ past. above k (start_of stop runs) _ _ past ∙ pushed (start_of stop runs) stop k runs kind t.3 less past ∙ sym (above k (start_of (stop + 1) (runs ++ record { first = stop; kind = kind } ∷ [])) _ _ (omega (arith, past, s))))
    (cases_lt k (start_of stop runs))
  where
    behind : (stop : ℕ) (runs : List Run) (kind : Kind) → start_of stop runs ≡ start_of (stop + 1) (runs ++ record { first = stop; kind = kind } ∷ [])
    behind stop [] kind = refl
    behind stop (x ∷ runs) kind = refl

-- what follows the front is tiled
pub back_tiled : (at stop : ℕ) (front runs : List Run) → AreTiled at stop (front ++ runs) → AreTiled (start_of stop runs) stop runs
back_tiled at stop [] [] t = refl
back_tiled at stop [] (r ∷ runs) t = (refl, (let s = t.0 in let h = t.1 in omega (arith, s, h)), t.2, t.3)
back_tiled at stop (r ∷ front) runs t = back_tiled (start_of stop (front ++ runs)) stop front runs t.3

-- runs begin in front of their end
pub tiled_least : (at stop : ℕ) (runs : List Run) → AreTiled at stop runs → at ≤ stop
tiled_least at stop [] t = let s : at ≡ stop = t in omega (arith, s)
tiled_least at stop (r ∷ runs) t = let more = tiled_least (start_of stop runs) stop runs t.3 in let less = t.1 in omega (arith, more, less)

-- a run added behind the others
pub pushed_tiled : (at stop : ℕ) (runs : List Run) (kind : Kind) → IsRight kind → AreTiled at stop runs → AreTiled at (stop + 1) (runs ++ record { first = stop; kind = kind } ∷ [])
pushed_tiled at stop [] kind right t = (sym t, (let s : at ≡ stop = t in omega (arith, s)), right, refl)
pushed_tiled at stop (r ∷ runs) kind right t =
    (t.0, subst (λ n. at < n) (behind runs) t.1, t.2, subst (λ n. AreTiled n (stop + 1) (runs ++ record { first = stop; kind = kind } ∷ [])) (behind runs) (pushed_tiled (start_of stop runs) stop runs kind right t.3))
  where
    behind : (runs : List Run) → start_of stop runs ≡ start_of (stop + 1) (runs ++ record { first = stop; kind = kind } ∷ [])
    behind [] = refl
    behind (x ∷ runs) = refl

-- and its entry
pub pushed_last : (at stop : ℕ) (runs : List Run) (kind : Kind) → AreTiled at stop runs → entry_at (stop + 1) (runs ++ record { first = stop; kind = kind } ∷ []) stop ≡ entry_in kind (stop + 1) stop
pushed_last at stop [] kind t = below stop (stop + 1) _ _ (omega arith)
pushed_last at stop (r ∷ runs) kind t =
    let least = tiled_least (start_of stop runs) stop runs t.3 in
    above stop (start_of (stop + 1) (runs ++ record { first = stop; kind = kind } ∷ [])) _ _ (subst (λ n. n ≤ stop) (behind runs) least) ∙ pushed_last (start_of stop runs) stop runs kind t.3
  where
    behind : (runs : List Run) → start_of stop runs ≡ start_of (stop + 1) (runs ++ record { first = stop; kind = kind } ∷ [])
    behind [] = refl
    behind (x ∷ runs) = refl
