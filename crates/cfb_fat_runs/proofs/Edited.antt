-- Lists of runs that are edited, and the entries that they stand for.
use Rattle.std.proofs.Common.{◌≡◌, ◌≢◌, ◌+◌, ◌<◌, ◌≤◌, ℕ, zero, suc, List, [], ◌∷◌, ◌++◌, length, map, take, drop, get_or, refl, sym, ap, subst, ◌∙◌, arith, ⊎_elim, append_assoc, cond, eq-eqb, length-take}
use Rattle.std.proofs.Math.ListN.{set}
use Rattle.std.proofs.Math.Seq.{drop-append-add, get_or-append_seam, split_at}
use Rattle.std.specs.List.{insert, range_with_len}
use Rattle.std.proofs.lemmas.Bool.Decides.{eqb_tells}
use Rattle.std.proofs.lemmas.List.{at_drop_all, at_drop_more, drop-set-lt, get_or-set_other, get_or-set_same, length-set, set_split, take_more_set}
use Rattle.std.proofs.lemmas.List.FromFn.{fill_by_all, get_or-map-range_with_len, length-map-range_with_len, map-range_with_len_more}
use Rattle.cfb_sectors.specs.Sectors.{end_of_chain, greatest_regular}
use Rattle.cfb_fat_runs.specs.Runs.{entry_at, entry_in, head_of, leading_to, tail_of, start_of, AreTiled, IsLink, IsRight}
use Rattle.cfb_fat_runs.specs.declared.runs.Kind.{Kind}
use Rattle.cfb_fat_runs.specs.declared.runs.Kind.TheVariants.{Special, Linked}
use Rattle.cfb_fat_runs.specs.declared.runs.Run.{Run}
use Rattle.cfb_fat_runs.proofs.Splicing.{above, back_tiled, below, cut_entry, cut_tiled, entry_in_place, found, relabelled, relinked, tiled_in, tiled_least}

-- where the runs behind some begin
pub start_some : (stop i : ℕ) (runs : List Run) (d : Run) → i < length runs → start_of stop (drop i runs) ≡ (get_or runs i d).first
start_some stop i runs d h = at_drop_more (start_of stop) runs i d h

pub start_none : (stop i : ℕ) (runs : List Run) → length runs ≤ i → start_of stop (drop i runs) ≡ stop
start_none stop i runs h = at_drop_all (start_of stop) runs i h

pub same_entries : (n : ℕ) (f h : ℕ → ℕ) → ((k : ℕ) → k < n → f k ≡ h k) → map f (range_with_len 0 n) ≡ map h (range_with_len 0 n)
same_entries n f h e = fill_by_all h (map f (range_with_len 0 n)) n 0 (length-map-range_with_len f 0 n) (λ k less. get_or-map-range_with_len f 0 n k k 0 less (omega arith) ∙ e k less)

pub set_entries : (n i v : ℕ) (f h : ℕ → ℕ) → i < n → h i ≡ v → ((k : ℕ) → k < n → k ≢ i → f k ≡ h k) → set (map f (range_with_len 0 n)) i v ≡ map h (range_with_len 0 n)
set_entries n i v f h inside is e =
    let old = map f (range_with_len 0 n) in
    let size : length old ≡ n = length-map-range_with_len f 0 n in
    fill_by_all h (set old i v) n 0 (length-set old i v ∙ size) (λ k less. ⊎_elim
    (λ same. let at = same.1 in ap (λ j. get_or (set old i v) j 0) at ∙ get_or-set_same old i v 0 (omega (arith, size, inside)) ∙ sym is ∙ ap h (sym at))
    (λ off. get_or-set_other old i k v 0 off.1 ∙ get_or-map-range_with_len f 0 n k k 0 less (omega arith) ∙ e k less off.1)
    (eqb_tells k i))

pub more_entries : (n v : ℕ) (f h : ℕ → ℕ) → h n ≡ v → ((k : ℕ) → k < n → f k ≡ h k) → map h (range_with_len 0 (n + 1)) ≡ map f (range_with_len 0 n) ++ v ∷ []
more_entries n v f h is e = map-range_with_len_more h 0 n n (omega arith) ∙ ap (λ l. l ++ h n ∷ []) (sym (same_entries n f h e)) ∙ ap (λ x. map f (range_with_len 0 n) ++ x ∷ []) is

-- what edits of a run and of what is behind it make of a list
pub split_one : (xs : List Run) (p : ℕ) (r : Run) → p < length xs → r ≡ get_or xs p r → xs ≡ take p xs ++ r ∷ drop (p + 1) xs
split_one xs p r h is = split_at xs p r h ∙ ap (λ x. take p xs ++ x ∷ drop (suc p) xs) (sym is) ∙ ap (λ n. take p xs ++ r ∷ drop n xs) (let e : suc p ≡ p + 1 = omega arith in e)

pub front_set : (xs : List Run) (p : ℕ) (x : Run) → p < length xs → take (p + 1) (set xs p x) ≡ take p xs ++ x ∷ []
front_set xs p x h = take_more_set xs p x h

pub insert_behind : (xs : List Run) (p : ℕ) (x y : Run) → p < length xs → insert (set xs p x) (p + 1) y ≡ take p xs ++ x ∷ y ∷ drop (p + 1) xs
insert_behind xs p x y h =
    ap (λ l. l ++ y ∷ drop (p + 1) (set xs p x)) (front_set xs p x h)
    ∙ ap (λ l. (take p xs ++ x ∷ []) ++ y ∷ l) (drop-set-lt (p + 1) xs p x (omega arith))
    ∙ append_assoc (take p xs) (x ∷ []) (y ∷ drop (p + 1) xs)

pub remove_behind : (xs ys : List Run) (p : ℕ) (x : Run) → p < length xs → ys ≡ take (p + 1) (set xs p x) ++ drop (p + 1 + 1) (set xs p x) → ys ≡ take p xs ++ x ∷ drop (p + 1 + 1) xs
remove_behind xs ys p x h is =
    is ∙ ap (λ l. l ++ drop (p + 1 + 1) (set xs p x)) (front_set xs p x h)
    ∙ ap (λ l. (take p xs ++ x ∷ []) ++ l) (drop-set-lt (p + 1 + 1) xs p x (omega arith))
    ∙ append_assoc (take p xs) (x ∷ []) (drop (p + 1 + 1) xs)

-- the same entries by other runs
pub record SameRuns (len : ℕ) (xs ys : List Run) : Type 0 where
  pub tiled : AreTiled 0 len ys
  pub entries : (k : ℕ) → k < len → entry_at len xs k ≡ entry_at len ys k

-- a run is cut in two
pub cut_all : (len i p : ℕ) (xs ys : List Run) (r : Run) → AreTiled 0 len xs → len ≤ greatest_regular + 1 → p < length xs → r ≡ get_or xs p r → r.first < i → i < start_of len (drop (p + 1) xs)
    → ys ≡ take p xs ++ head_of r i ∷ tail_of r i ∷ drop (p + 1) xs → SameRuns len xs ys
cut_all len i p xs ys r tiled few inside is from to new =
    let back = drop (p + 1) xs in
    let old = split_one xs p r inside is in
    let t : AreTiled 0 len (take p xs ++ r ∷ back) = subst (AreTiled 0 len) old tiled in
    let least = tiled_least (start_of len back) len back (back_tiled 0 len (take p xs) (r ∷ back) t).3 in
    record {
      tiled = subst (AreTiled 0 len) (sym new) (tiled_in 0 len (take p xs) (r ∷ back) (head_of r i ∷ tail_of r i ∷ back) refl (λ m. cut_tiled m len i r back from to (omega (arith, to, least, few))) t);
      entries = λ k less. ap (λ l. entry_at len l k) old ∙ entry_in_place 0 len k (take p xs) (r ∷ back) (head_of r i ∷ tail_of r i ∷ back) refl t (omega arith) (λ past. cut_entry len i k r back to) ∙ ap (λ l. entry_at len l k) (sym new);
    }

-- two runs are made one
pub join_all : (len p : ℕ) (xs ys : List Run) (a b : Run) → AreTiled 0 len xs → p + 1 < length xs → a ≡ get_or xs p a → b ≡ get_or xs (p + 1) b → a.kind ≡ leading_to b.first b.kind
    → ys ≡ take p xs ++ record { first = a.first; kind = b.kind } ∷ drop (p + 1 + 1) xs → SameRuns len xs ys
join_all len p xs ys a b tiled inside is_a is_b leads new =
    let back = drop (p + 1 + 1) xs in
    let r : Run = record { first = a.first; kind = b.kind } in
    let first : xs ≡ take p xs ++ a ∷ drop (p + 1) xs = split_one xs p a (omega (arith, inside)) is_a in
    let second : drop (p + 1) xs ≡ b ∷ back = at_drop_more (λ l. l) xs (p + 1) b inside ∙ ap (λ x. x ∷ back) (sym is_b) in
    let old : xs ≡ take p xs ++ a ∷ b ∷ back = first ∙ ap (λ l. take p xs ++ a ∷ l) second in
    let t : AreTiled 0 len (take p xs ++ a ∷ b ∷ back) = subst (AreTiled 0 len) old tiled in
    let here = back_tiled 0 len (take p xs) (a ∷ b ∷ back) t in
    let heads : a ∷ b ∷ back ≡ head_of r b.first ∷ tail_of r b.first ∷ back = ap (λ k. record { first = a.first; kind = k } ∷ b ∷ back) leads in
    record {
      tiled = subst (AreTiled 0 len) (sym new) (tiled_in 0 len (take p xs) (a ∷ b ∷ back) (r ∷ back) refl
          (λ m s. (s.0, (let x = s.1 in let y = s.3.1 in omega (arith, x, y)), s.3.2, s.3.3)) t);
      entries = λ k less. ap (λ l. entry_at len l k) old ∙ entry_in_place 0 len k (take p xs) (a ∷ b ∷ back) (r ∷ back) refl t (omega arith)
          (λ past. ap (λ l. entry_at len l k) heads ∙ sym (cut_entry len b.first k r back here.3.1)) ∙ ap (λ l. entry_at len l k) (sym new);
    }

-- what stands behind the front is seen through it
pub skip_front : (at stop k : ℕ) (front runs : List Run) → AreTiled at stop (front ++ runs) → start_of stop runs ≤ k → entry_at stop (front ++ runs) k ≡ entry_at stop runs k
skip_front at stop k [] runs t past = refl
skip_front at stop k (r ∷ front) runs t past = let least = front_least (start_of stop (front ++ runs)) stop front runs t.3 in
    above k (start_of stop (front ++ runs)) _ _ (omega (arith, least, past)) ∙ skip_front (start_of stop (front ++ runs)) stop k front runs t.3 past
  where
    front_least : (at stop : ℕ) (front runs : List Run) → AreTiled at stop (front ++ runs) → at ≤ start_of stop runs
    front_least at stop [] [] t = let s : at ≡ stop = t in omega (arith, s)
    front_least at stop [] (x ∷ runs) t = let s = t.0 in omega (arith, s)
    front_least at stop (x ∷ front) runs t = let more = front_least (start_of stop (front ++ runs)) stop front runs t.3 in let less = t.1 in omega (arith, more, less)

-- one entry is another, and all others stay
pub record EditsRuns (len i v : ℕ) (xs ys : List Run) : Type 0 where
  pub tiled : AreTiled 0 len ys
  pub here : entry_at len ys i ≡ v
  pub others : (k : ℕ) → k < len → k ≢ i → entry_at len xs k ≡ entry_at len ys k

pub edit_all : (len p i v : ℕ) (xs ys : List Run) (r new : Run) → AreTiled 0 len xs → p < length xs → r ≡ get_or xs p r → new.first ≡ r.first → IsRight new.kind → r.first ≤ i → i < start_of len (drop (p + 1) xs)
    → entry_in new.kind (start_of len (drop (p + 1) xs)) i ≡ v
    → ((k : ℕ) → r.first ≤ k → k ≢ i → entry_at len (r ∷ drop (p + 1) xs) k ≡ entry_at len (new ∷ drop (p + 1) xs) k)
    → ys ≡ set xs p new → EditsRuns len i v xs ys
edit_all len p i v xs ys r new tiled inside is first right from to here others edited =
    let back = drop (p + 1) xs in
    let front = take p xs in
    let old = split_one xs p r inside is in
    let now : ys ≡ front ++ new ∷ back = edited ∙ set_split xs p new inside ∙ ap (λ n. front ++ new ∷ drop n xs) (let e : suc p ≡ p + 1 = omega arith in e) in
    let t : AreTiled 0 len (front ++ r ∷ back) = subst (AreTiled 0 len) old tiled in
    let t_now : AreTiled 0 len (front ++ new ∷ back) = tiled_in 0 len front (r ∷ back) (new ∷ back) (sym first) (λ m s. (first ∙ s.0, s.1, right, s.3)) t in
    record {
      tiled = subst (AreTiled 0 len) (sym now) t_now;
      here = ap (λ l. entry_at len l i) now ∙ skip_front 0 len i front (new ∷ back) t_now (omega (arith, first, from)) ∙ below i (start_of len back) _ _ to ∙ here;
      others = λ k less off. ap (λ l. entry_at len l k) old ∙ entry_in_place 0 len k front (r ∷ back) (new ∷ back) (sym first) t (omega arith) (λ past. others k past off) ∙ ap (λ l. entry_at len l k) (sym now);
    }

-- a run ends in front of the end
pub stop_least : (len p : ℕ) (xs : List Run) (r : Run) → AreTiled 0 len xs → p < length xs → r ≡ get_or xs p r → start_of len (drop (p + 1) xs) ≤ len
stop_least len p xs r tiled inside is =
    tiled_least (start_of len (drop (p + 1) xs)) len (drop (p + 1) xs) (back_tiled 0 len (take p xs) (r ∷ drop (p + 1) xs) (subst (AreTiled 0 len) (split_one xs p r inside is) tiled)).3

take_long : (xs : List Run) (p : ℕ) → p < length xs → length (take p xs) ≡ p
take_long xs p h = length-take p xs ∙ omega (arith, h)

-- what stands in the middle of a list
pub drop_one : (xs rest : List Run) (p : ℕ) (h : Run) → p < length xs → drop (p + 1) (take p xs ++ h ∷ rest) ≡ rest
drop_one xs rest p h inside = ap (λ n. drop (n + 1) (take p xs ++ h ∷ rest)) (sym (take_long xs p inside)) ∙ drop-append-add (take p xs) (h ∷ rest) 1

pub drop_two : (xs rest : List Run) (p : ℕ) (h t : Run) → p < length xs → drop (p + 1 + 1) (take p xs ++ h ∷ t ∷ rest) ≡ rest
drop_two xs rest p h t inside = ap (λ n. drop n (take p xs ++ h ∷ t ∷ rest)) (let e : p + 1 + 1 ≡ p + 2 = omega arith in e) ∙ ap (λ n. drop (n + 2) (take p xs ++ h ∷ t ∷ rest)) (sym (take_long xs p inside)) ∙ drop-append-add (take p xs) (h ∷ t ∷ rest) 2

pub get_one : (xs rest : List Run) (p : ℕ) (h d : Run) → p < length xs → get_or (take p xs ++ h ∷ rest) p d ≡ h
get_one xs rest p h d inside = ap (λ n. get_or (take p xs ++ h ∷ rest) n d) (sym (take_long xs p inside)) ∙ get_or-append_seam (take p xs) h rest d

-- the kind of each run is right
pub right_at : (at stop p : ℕ) (runs : List Run) (d : Run) → AreTiled at stop runs → p < length runs → IsRight (get_or runs p d).kind
right_at at stop p [] d t h = absurd (omega (arith, h))
right_at at stop zero (r ∷ runs) d t h = t.2
right_at at stop (suc p) (r ∷ runs) d t h = right_at (start_of stop runs) stop p runs d t.3 (omega (arith, h))

-- no run is empty, so there are no more than entries
pub runs_few : (at stop : ℕ) (runs : List Run) → AreTiled at stop runs → at + length runs ≤ stop
runs_few at stop [] t = let s : at ≡ stop = t in omega (arith, s)
runs_few at stop (r ∷ runs) t = let more = runs_few (start_of stop runs) stop runs t.3 in let less = t.1 in omega (arith, more, less)

-- where there is an entry there is a run, and the first begins at the front
pub some_runs : (at stop : ℕ) (runs : List Run) → at < stop → AreTiled at stop runs → 0 < length runs
some_runs at stop [] less t = absurd (let s : at ≡ stop = t in omega (arith, s, less))
some_runs at stop (r ∷ runs) less t = omega arith

pub begins_at : (at stop : ℕ) (runs : List Run) (d : Run) → AreTiled at stop runs → 0 < length runs → (get_or runs 0 d).first ≡ at
begins_at at stop [] d t h = absurd (omega (arith, h))
begins_at at stop (r ∷ runs) d t h = t.0

pub relinked_any : (stop k first new : ℕ) (kind : Kind) (back : List Run) → IsLink kind → k + 1 ≢ start_of stop back
    → entry_at stop (record { first = first; kind = kind } ∷ back) k ≡ entry_at stop (record { first = first; kind = Linked new } ∷ back) k
relinked_any stop k first new (Special n) back link off = absurd link
relinked_any stop k first new (Linked old) back link off = relinked stop k first old new back off

pub last_entry : (next s k : ℕ) → k + 1 ≡ s → entry_in (Linked next) s k ≡ next
last_entry next s k h = ap (λ b. cond b next (k + 1)) (eq-eqb (k + 1) s h)

pub inner_entry : (next s k : ℕ) → k + 1 ≢ s → entry_in (Linked next) s k ≡ k + 1
inner_entry next s k off = ⊎_elim (λ same. absurd (off same.1)) (λ differ. ap (λ b. cond b next (k + 1)) differ.0) (eqb_tells (k + 1) s)

-- in front of a run's last entry no chain ends
pub not_end : (kind : Kind) (s k : ℕ) → IsRight kind → k ≤ greatest_regular → k + 1 ≢ s → entry_in kind s k ≡ end_of_chain → ⊥
not_end (Special n) s k right few off is = right.1 is
not_end (Linked n) s k right few off is = let e : k + 1 ≡ end_of_chain = sym (inner_entry n s k off) ∙ is in omega (arith, e, few)

pub special_not_end : (kind : Kind) (s k : ℕ) → IsRight kind → (IsLink kind → ⊥) → entry_in kind s k ≡ end_of_chain → ⊥
special_not_end (Special n) s k right unlinked is = right.1 is
special_not_end (Linked n) s k right unlinked is = unlinked tt

-- which item is given where there is none doesn't matter where there is one
pub same_item : (xs : List Run) (p : ℕ) (d e : Run) → p < length xs → get_or xs p d ≡ get_or xs p e
same_item [] p d e h = absurd (omega (arith, h))
same_item (x ∷ xs) zero d e h = refl
same_item (x ∷ xs) (suc p) d e h = same_item xs p d e (omega (arith, h))

pub found_at : (stop k p : ℕ) (runs : List Run) (d : Run) → AreTiled 0 stop runs → p < length runs → (get_or runs p d).first ≤ k → k < start_of stop (drop (p + 1) runs)
    → entry_at stop runs k ≡ entry_in (get_or runs p d).kind (start_of stop (drop (p + 1) runs)) k
found_at stop k p runs d t h from to =
    let e : suc p ≡ p + 1 = omega arith in
    subst (λ n. k < start_of stop (drop n runs) → entry_at stop runs k ≡ entry_in (get_or runs p d).kind (start_of stop (drop n runs)) k) e (found 0 stop k p runs d t h from) to

-- what the calls make of a list
pub cut_made : (len i p : ℕ) (xs ys : List Run) (r m : Run) (kind : Kind) → AreTiled 0 len xs → len ≤ greatest_regular + 1 → p < length xs → r ≡ get_or xs p r → m ≡ get_or xs p m → kind ≡ leading_to i r.kind
    → (get_or xs p r).first < i → i < start_of len (drop (p + 1) xs) → ys ≡ insert (set xs p (record { first = m.first; kind = kind })) (p + 1) (record { first = i; kind = r.kind }) → SameRuns len xs ys
cut_made len i p xs ys r m kind tiled few inside is_r is_m is_kind from to made =
    let one : m ≡ r = is_m ∙ same_item xs p m r inside ∙ sym is_r in
    let head : record { first = m.first; kind = kind } ≡ head_of r i = ap (λ (x : Run). record { first = x.first; kind = kind }) one ∙ ap (λ k. record { first = r.first; kind = k }) is_kind in
    let new : ys ≡ take p xs ++ head_of r i ∷ tail_of r i ∷ drop (p + 1) xs =
    made ∙ insert_behind xs p (record { first = m.first; kind = kind }) (tail_of r i) inside ∙ ap (λ x. take p xs ++ x ∷ tail_of r i ∷ drop (p + 1) xs) head in
    cut_all len i p xs ys r tiled few inside is_r (let e = ap (λ (x : Run). x.first) is_r in omega (arith, from, e)) to new

pub join_made : (len p : ℕ) (xs ys : List Run) (a b m : Run) → AreTiled 0 len xs → p + 1 < length xs → a ≡ get_or xs p a → b ≡ get_or xs (p + 1) b → m ≡ get_or xs p m → a.kind ≡ leading_to b.first b.kind
    → ys ≡ take (p + 1) (set xs p (record { first = m.first; kind = b.kind })) ++ drop (p + 1 + 1) (set xs p (record { first = m.first; kind = b.kind })) → SameRuns len xs ys
join_made len p xs ys a b m tiled inside is_a is_b is_m leads made =
    let front : p < length xs = omega (arith, inside) in
    let one : m ≡ a = is_m ∙ same_item xs p m a front ∙ sym is_a in
    let new : ys ≡ take p xs ++ record { first = a.first; kind = b.kind } ∷ drop (p + 1 + 1) xs =
    remove_behind xs ys p (record { first = m.first; kind = b.kind }) front made ∙ ap (λ (x : Run). take p xs ++ record { first = x.first; kind = b.kind } ∷ drop (p + 1 + 1) xs) one in
    join_all len p xs ys a b tiled inside is_a is_b leads new

pub relabel_made : (len p i v : ℕ) (xs : List Run) (m : Run) (kind : Kind) → AreTiled 0 len xs → p < length xs → m ≡ get_or xs p m → (get_or xs p m).first ≡ i → start_of len (drop (p + 1) xs) ≡ i + 1 → IsRight kind
    → ((stop index : ℕ) → stop ≡ index + 1 → entry_in kind stop index ≡ v) → EditsRuns len i v xs (set xs p (record { first = m.first; kind = kind }))
relabel_made len p i v xs m kind tiled inside is at one right entry =
    let first : m.first ≡ i = ap (λ (x : Run). x.first) is ∙ at in
    edit_all len p i v xs (set xs p (record { first = m.first; kind = kind })) m (record { first = m.first; kind = kind }) tiled inside is refl right (omega (arith, first)) (omega (arith, one))
    (entry (start_of len (drop (p + 1) xs)) i one)
    (λ k from off. relabelled len k m kind (drop (p + 1) xs) (omega (arith, one, first)) from (λ same. off (same ∙ first)))
    refl

pub relink_made : (len p i v : ℕ) (xs : List Run) (m : Run) → AreTiled 0 len xs → p < length xs → m ≡ get_or xs p m → (get_or xs p m).first ≤ i → i + 1 ≡ start_of len (drop (p + 1) xs) → IsLink (get_or xs p m).kind → v ≤ greatest_regular
    → EditsRuns len i v xs (set xs p (record { first = m.first; kind = Linked v }))
relink_made len p i v xs m tiled inside is from last link few =
    let first = ap (λ (x : Run). x.first) is in
    edit_all len p i v xs (set xs p (record { first = m.first; kind = Linked v })) m (record { first = m.first; kind = Linked v }) tiled inside is refl (λ many. absurd (omega (arith, few, many))) (omega (arith, first, from)) (omega (arith, last))
    (last_entry v (start_of len (drop (p + 1) xs)) i last)
    (λ k past off. relinked_any len k m.first v m.kind (drop (p + 1) xs) (subst (λ (x : Run). IsLink x.kind) (sym is) link) (λ same. off (omega (arith, same, last))))
    refl
