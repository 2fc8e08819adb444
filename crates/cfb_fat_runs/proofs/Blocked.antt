-- Runs in blocks that are filled from the front.
use Rattle.std.proofs.Common.{◌≡◌, ◌+◌, ◌-◌, ◌*◌, ◌/◌, ◌%◌, ◌<◌, ◌≤◌, ℕ, zero, suc, List, [], ◌∷◌, ◌++◌, length, take, drop, get_or, refl, sym, ap, subst, ◌∙◌, ⊎_elim, arith, append_assoc, length-append}
use Rattle.std.proofs.Math.ListN.{set}
use Rattle.std.specs.Prelude.{min}
use Rattle.std.specs.List.{flat_map, insert}
use Rattle.std.proofs.lemmas.Bool.{cases_eq}
use Rattle.std.proofs.lemmas.List.{drop-set-lt, drop_more, get_or-set_other, get_or-set_same, length-set, set-append_left, set-append_right, set_split, take-append-drop, take-set-le, take_all, take_more, take_more_set}
use Rattle.std.proofs.lemmas.List.Concat.{flat_map-append, get_or-flat_map}
use Rattle.std.proofs.lemmas.List.Edits.{insert-append_left, insert-append_right, length-insert, length-remove, remove-append_left, remove-append_right}
use Rattle.cfb_fat_runs.specs.BlockLen.{most_runs}
use Rattle.cfb_fat_runs.specs.Blocks.{count_in, joined_runs, runs_in, AreFilled, HasOneLessAt, HasOneMoreAt}
use Rattle.cfb_fat_runs.specs.declared.blocks.Block.{Block}
use Rattle.cfb_fat_runs.specs.declared.runs.Run.{Run}

-- so many runs stand in the blocks at the front
front_long : (len k : ℕ) (bs : List Block) (d : Block) → AreFilled len bs → k ≤ length bs → length (joined_runs (take k bs)) ≡ min len (k * most_runs)
front_long len zero bs d fill inside = omega arith
front_long len (suc k) bs d fill inside =
    let less : k < length bs = omega (arith, inside) in
    let before = front_long len k bs d fill (omega (arith, less)) in
    let here = fill k d less in
    let parts : joined_runs (take (k + 1) bs) ≡ joined_runs (take k bs) ++ (runs_in (get_or bs k d) ++ []) = ap joined_runs (take_more bs k d less) ∙ flat_map-append runs_in (take k bs) (get_or bs k d ∷ []) in
    let both = length-append (joined_runs (take k bs)) (runs_in (get_or bs k d) ++ []) in
    let last = length-append (runs_in (get_or bs k d)) [] in
    let next : suc k ≡ k + 1 = omega arith in
    let sum : length (joined_runs (take k bs)) + length (runs_in (get_or bs k d) ++ []) ≡ min len (suc k * most_runs) = omega (arith, before, here, last) in
    ap (λ n. length (joined_runs (take n bs))) next ∙ ap length parts ∙ both ∙ sum

-- and in all
pub joined_long : (len : ℕ) (bs : List Block) → AreFilled len bs → len ≤ length bs * most_runs → length (joined_runs bs) ≡ len
joined_long len [] fill inside = omega (arith, inside)
joined_long len (b ∷ bs) fill inside =
    let all = b ∷ bs in
    let front = front_long len (length all) all b fill (omega arith) in
    let least : min len (length all * most_runs) ≡ len = omega (arith, inside) in
    ap (λ l. length (joined_runs l)) (sym (take_all (length all) all (omega arith))) ∙ front ∙ least

-- those in front of a block, its own, and those behind
split : (k : ℕ) (bs : List Block) (d : Block) → k < length bs → joined_runs bs ≡ joined_runs (take k bs) ++ (runs_in (get_or bs k d) ++ joined_runs (drop (k + 1) bs))
split k bs d less = ap joined_runs (sym (take-append-drop k bs)) ∙ flat_map-append runs_in (take k bs) (drop k bs) ∙ ap (λ l. joined_runs (take k bs) ++ joined_runs l) (drop_more bs k d less)

-- so it is with another block in its place
replaced : (k : ℕ) (bs : List Block) (b : Block) → k < length bs → joined_runs (set bs k b) ≡ joined_runs (take k bs) ++ (runs_in b ++ joined_runs (drop (k + 1) bs))
replaced k bs b less =
    let next : suc k ≡ k + 1 = omega arith in
    ap joined_runs (set_split bs k b less) ∙ flat_map-append runs_in (take k bs) (b ∷ drop (suc k) bs) ∙ ap (λ n. joined_runs (take k bs) ++ (runs_in b ++ joined_runs (drop n bs))) next

-- the block of a place
pub block_there : (len place : ℕ) (bs : List Block) → len ≤ length bs * most_runs → place < len → place / most_runs < length bs
block_there len place bs inside less = omega (arith, inside, less)

pub place_there : (len place : ℕ) (bs : List Block) (d : Block) → AreFilled len bs → len ≤ length bs * most_runs → place < len → place % most_runs < length (runs_in (get_or bs (place / most_runs) d))
place_there len place bs d fill inside less = let here = fill (place / most_runs) d (block_there len place bs inside less) in omega (arith, here, less)

-- full blocks stand in front of it
front_full : (len place : ℕ) (bs : List Block) (d : Block) → AreFilled len bs → place / most_runs ≤ length bs → place ≤ len → length (joined_runs (take (place / most_runs) bs)) ≡ place / most_runs * most_runs
front_full len place bs d fill inside le =
    let front = front_long len (place / most_runs) bs d fill inside in
    let least : min len (place / most_runs * most_runs) ≡ place / most_runs * most_runs = omega (arith, le) in
    front ∙ least

-- a run is read
pub run_read : (len place : ℕ) (bs : List Block) (d : Block) (e : Run) → AreFilled len bs → len ≤ length bs * most_runs → place < len
    → get_or (joined_runs bs) place e ≡ get_or (runs_in (get_or bs (place / most_runs) d)) (place % most_runs) e
run_read len place bs d e fill inside less =
    let there = block_there len place bs inside less in
    let front = front_full len place bs d fill (omega (arith, there)) (omega (arith, less)) in
    let at : place ≡ length (joined_runs (take (place / most_runs) bs)) + place % most_runs = omega (arith, front) in
    ap (λ n. get_or (joined_runs bs) n e) at ∙ get_or-flat_map runs_in bs (place / most_runs) (place % most_runs) d e there (place_there len place bs d fill inside less)

-- a run is set
pub run_set : (len place : ℕ) (bs : List Block) (d b : Block) (run : Run) → AreFilled len bs → len ≤ length bs * most_runs → place < len
    → runs_in b ≡ set (runs_in (get_or bs (place / most_runs) d)) (place % most_runs) run → joined_runs (set bs (place / most_runs) b) ≡ set (joined_runs bs) place run
run_set len place bs d b run fill inside less is =
    let k = place / most_runs in
    let there = block_there len place bs inside less in
    let within = place_there len place bs d fill inside less in
    let front = front_full len place bs d fill (omega (arith, there)) (omega (arith, less)) in
    let at : place - k * most_runs ≡ place % most_runs = omega arith in
    let from : k * most_runs ≤ place = omega arith in
    let own = runs_in (get_or bs k d) in
    let rest = joined_runs (drop (k + 1) bs) in
    replaced k bs b there
    ∙ ap (λ l. joined_runs (take k bs) ++ (l ++ rest)) is
    ∙ ap (λ l. joined_runs (take k bs) ++ l) (sym (set-append_left own rest (place % most_runs) run within))
    ∙ ap (λ n. joined_runs (take k bs) ++ set (own ++ rest) n run) (sym at)
    ∙ sym (set-append_right (joined_runs (take k bs)) (own ++ rest) (k * most_runs) place run front from)
    ∙ ap (λ l. set l place run) (sym (split k bs d there))

-- a run is put in
pub run_inserted : (len place : ℕ) (bs : List Block) (d b : Block) (run : Run) → AreFilled len bs → len < length bs * most_runs → place ≤ len
    → runs_in b ≡ insert (runs_in (get_or bs (place / most_runs) d)) (place % most_runs) run → joined_runs (set bs (place / most_runs) b) ≡ insert (joined_runs bs) place run
run_inserted len place bs d b run fill inside le is =
    let k = place / most_runs in
    let there : k < length bs = omega (arith, inside, le) in
    let here = fill k d there in
    let own = runs_in (get_or bs k d) in
    let within : place % most_runs ≤ length own = omega (arith, here, le) in
    let front = front_full len place bs d fill (omega (arith, there)) le in
    let at : place - k * most_runs ≡ place % most_runs = omega arith in
    let from : k * most_runs ≤ place = omega arith in
    let rest = joined_runs (drop (k + 1) bs) in
    replaced k bs b there
    ∙ ap (λ l. joined_runs (take k bs) ++ (l ++ rest)) is
    ∙ ap (λ l. joined_runs (take k bs) ++ l) (sym (insert-append_left own rest (place % most_runs) run within))
    ∙ ap (λ n. joined_runs (take k bs) ++ insert (own ++ rest) n run) (sym at)
    ∙ sym (insert-append_right (joined_runs (take k bs)) (own ++ rest) (k * most_runs) place run front from)
    ∙ ap (λ l. insert l place run) (sym (split k bs d there))

-- a run is taken out
pub run_removed : (len place : ℕ) (bs : List Block) (d b : Block) → AreFilled len bs → len ≤ length bs * most_runs → place < len
    → runs_in b ≡ take (place % most_runs) (runs_in (get_or bs (place / most_runs) d)) ++ drop (place % most_runs + 1) (runs_in (get_or bs (place / most_runs) d))
    → joined_runs (set bs (place / most_runs) b) ≡ take place (joined_runs bs) ++ drop (place + 1) (joined_runs bs)
run_removed len place bs d b fill inside less is =
    let k = place / most_runs in
    let there = block_there len place bs inside less in
    let own = runs_in (get_or bs k d) in
    let within = place_there len place bs d fill inside less in
    let front = front_full len place bs d fill (omega (arith, there)) (omega (arith, less)) in
    let at : place - k * most_runs ≡ place % most_runs = omega arith in
    let from : k * most_runs ≤ place = omega arith in
    let rest = joined_runs (drop (k + 1) bs) in
    let next : place % most_runs + 1 ≡ suc (place % most_runs) = omega arith in
    let after : suc place ≡ place + 1 = omega arith in
    replaced k bs b there
    ∙ ap (λ l. joined_runs (take k bs) ++ (l ++ rest)) (is ∙ ap (λ n. take (place % most_runs) own ++ drop n own) next)
    ∙ ap (λ l. joined_runs (take k bs) ++ l) (sym (remove-append_left own rest (place % most_runs) within))
    ∙ ap (λ n. joined_runs (take k bs) ++ (take n (own ++ rest) ++ drop (suc n) (own ++ rest))) (sym at)
    ∙ sym (remove-append_right (joined_runs (take k bs)) (own ++ rest) (k * most_runs) place front from)
    ∙ ap (λ l. take place l ++ drop (suc place) l) (sym (split k bs d there))
    ∙ ap (λ n. take place (joined_runs bs) ++ drop n (joined_runs bs)) after

-- two blocks side by side, those in front and those behind
side_by_side : (k : ℕ) (bs : List Block) (d : Block) → k + 1 < length bs
    → joined_runs bs ≡ joined_runs (take k bs) ++ (runs_in (get_or bs k d) ++ (runs_in (get_or bs (k + 1) d) ++ joined_runs (drop (k + 1 + 1) bs)))
side_by_side k bs d less =
    split k bs d (omega (arith, less)) ∙ ap (λ l. joined_runs (take k bs) ++ (runs_in (get_or bs k d) ++ joined_runs l)) (drop_more bs (k + 1) d less)

-- so it is with others in their places
pub both_replaced : (k : ℕ) (bs : List Block) (x y : Block) → k + 1 < length bs
    → joined_runs (set (set bs k x) (k + 1) y) ≡ joined_runs (take k bs) ++ (runs_in x ++ (runs_in y ++ joined_runs (drop (k + 1 + 1) bs)))
both_replaced k bs x y less =
    let first : k < length bs = omega (arith, less) in
    let now = set (set bs k x) (k + 1) y in
    let long = length-set bs k x in
    let long_now = length-set (set bs k x) (k + 1) y in
    let off : k ≡ k + 1 → ⊥ = λ e. absurd (omega (arith, e)) in
    let here : get_or now k x ≡ x = get_or-set_other (set bs k x) (k + 1) k y x off ∙ get_or-set_same bs k x x first in
    let there : get_or now (k + 1) x ≡ y = get_or-set_same (set bs k x) (k + 1) y x (omega (arith, less, long)) in
    let front : take k now ≡ take k bs = take-set-le k (set bs k x) (k + 1) y (omega arith) ∙ take-set-le k bs k x (omega arith) in
    let back : drop (k + 1 + 1) now ≡ drop (k + 1 + 1) bs = drop-set-lt (k + 1 + 1) (set bs k x) (k + 1) y (omega arith) ∙ drop-set-lt (k + 1 + 1) bs k x (omega arith) in
    side_by_side k now x (omega (arith, less, long, long_now))
    ∙ ap (λ l. joined_runs l ++ (runs_in (get_or now k x) ++ (runs_in (get_or now (k + 1) x) ++ joined_runs (drop (k + 1 + 1) now)))) front
    ∙ ap (λ b. joined_runs (take k bs) ++ (runs_in b ++ (runs_in (get_or now (k + 1) x) ++ joined_runs (drop (k + 1 + 1) now)))) here
    ∙ ap (λ b. joined_runs (take k bs) ++ (runs_in x ++ (runs_in b ++ joined_runs (drop (k + 1 + 1) now)))) there
    ∙ ap (λ l. joined_runs (take k bs) ++ (runs_in x ++ (runs_in y ++ joined_runs l))) back

pub back_replaced : (k : ℕ) (bs : List Block) (x y : Block) → k + 1 < length bs
    → joined_runs (set (set bs (k + 1) y) k x) ≡ joined_runs (take k bs) ++ (runs_in x ++ (runs_in y ++ joined_runs (drop (k + 1 + 1) bs)))
back_replaced k bs x y less =
    let first : k < length bs = omega (arith, less) in
    let now = set (set bs (k + 1) y) k x in
    let long = length-set bs (k + 1) y in
    let long_now = length-set (set bs (k + 1) y) k x in
    let off : k + 1 ≡ k → ⊥ = λ e. absurd (omega (arith, e)) in
    let here : get_or now k x ≡ x = get_or-set_same (set bs (k + 1) y) k x x (omega (arith, first, long)) in
    let there : get_or now (k + 1) x ≡ y = get_or-set_other (set bs (k + 1) y) k (k + 1) x x off ∙ get_or-set_same bs (k + 1) y x less in
    let front : take k now ≡ take k bs = take-set-le k (set bs (k + 1) y) k x (omega arith) ∙ take-set-le k bs (k + 1) y (omega arith) in
    let back : drop (k + 1 + 1) now ≡ drop (k + 1 + 1) bs = drop-set-lt (k + 1 + 1) (set bs (k + 1) y) k x (omega arith) ∙ drop-set-lt (k + 1 + 1) bs (k + 1) y (omega arith) in
    side_by_side k now x (omega (arith, less, long, long_now))
    ∙ ap (λ l. joined_runs l ++ (runs_in (get_or now k x) ++ (runs_in (get_or now (k + 1) x) ++ joined_runs (drop (k + 1 + 1) now)))) front
    ∙ ap (λ b. joined_runs (take k bs) ++ (runs_in b ++ (runs_in (get_or now (k + 1) x) ++ joined_runs (drop (k + 1 + 1) now)))) here
    ∙ ap (λ b. joined_runs (take k bs) ++ (runs_in x ++ (runs_in b ++ joined_runs (drop (k + 1 + 1) now)))) there
    ∙ ap (λ l. joined_runs (take k bs) ++ (runs_in x ++ (runs_in y ++ joined_runs l))) back

-- a run goes from the end of one block to the front of the next
pub moved_on : (k : ℕ) (bs : List Block) (d x y : Block) (run : Run) → k + 1 < length bs → runs_in (get_or bs k d) ≡ runs_in x ++ run ∷ [] → runs_in y ≡ run ∷ runs_in (get_or bs (k + 1) d)
    → joined_runs (set (set bs k x) (k + 1) y) ≡ joined_runs bs
moved_on k bs d x y run less from to =
    let rest = joined_runs (drop (k + 1 + 1) bs) in
    let next = runs_in (get_or bs (k + 1) d) in
    both_replaced k bs x y less
    ∙ ap (λ l. joined_runs (take k bs) ++ (runs_in x ++ (l ++ rest))) to
    ∙ ap (λ l. joined_runs (take k bs) ++ l) (sym (append_assoc (runs_in x) (run ∷ []) (next ++ rest)))
    ∙ ap (λ l. joined_runs (take k bs) ++ (l ++ (next ++ rest))) (sym from)
    ∙ sym (side_by_side k bs d less)

-- a run goes from the front of a block to the end of the one before
pub moved_back : (k : ℕ) (bs : List Block) (d x y : Block) (run : Run) → k + 1 < length bs → runs_in (get_or bs (k + 1) d) ≡ run ∷ runs_in y → runs_in x ≡ runs_in (get_or bs k d) ++ run ∷ []
    → joined_runs (set (set bs (k + 1) y) k x) ≡ joined_runs bs
moved_back k bs d x y run less from to =
    let rest = joined_runs (drop (k + 1 + 1) bs) in
    let own = runs_in (get_or bs k d) in
    back_replaced k bs x y less
    ∙ ap (λ l. joined_runs (take k bs) ++ (l ++ (runs_in y ++ rest))) to
    ∙ ap (λ l. joined_runs (take k bs) ++ l) (append_assoc own (run ∷ []) (runs_in y ++ rest))
    ∙ ap (λ l. joined_runs (take k bs) ++ (own ++ (l ++ rest))) (sym from)
    ∙ sym (side_by_side k bs d less)

-- which block has one more, after a run went on
pub more_behind : (len at : ℕ) (bs cs : List Block) → length cs ≡ length bs → at + 1 < length bs → HasOneMoreAt len at bs
    → ((d : Block) → count_in cs at d + 1 ≡ count_in bs at d) → ((d : Block) → count_in cs (at + 1) d ≡ count_in bs (at + 1) d + 1)
    → ((k : ℕ) (d : Block) → (k ≡ at → ⊥) → (k ≡ at + 1 → ⊥) → count_in cs k d ≡ count_in bs k d) → HasOneMoreAt len (at + 1) cs
more_behind len at bs cs size inside shape less more others =
    let off : at + 1 ≡ at → ⊥ = λ e. absurd (omega (arith, e)) in
    record {
      here = λ d. more d ∙ ap (λ n. n + 1) (shape.others (at + 1) d inside off);
      others = λ k d h no. ⊎_elim
          (λ same. subst (λ n. count_in cs n d ≡ min (len - n * most_runs) most_runs) (sym same) (let a = less d in let b = shape.here d in omega (arith, a, b)))
          (λ not. others k d not no ∙ shape.others k d (omega (arith, h, size)) not)
          (cases_eq k at);
    }

-- which lacks one, after a run came back
pub less_behind : (len at : ℕ) (bs cs : List Block) → length cs ≡ length bs → at + 1 < length bs → HasOneLessAt len at bs
    → ((d : Block) → count_in cs at d ≡ count_in bs at d + 1) → ((d : Block) → count_in cs (at + 1) d + 1 ≡ count_in bs (at + 1) d)
    → ((k : ℕ) (d : Block) → (k ≡ at → ⊥) → (k ≡ at + 1 → ⊥) → count_in cs k d ≡ count_in bs k d) → HasOneLessAt len (at + 1) cs
less_behind len at bs cs size inside shape more less others =
    let off : at + 1 ≡ at → ⊥ = λ e. absurd (omega (arith, e)) in
    record {
      here = λ d. less d ∙ shape.others (at + 1) d inside off;
      others = λ k d h no. ⊎_elim
          (λ same. subst (λ n. count_in cs n d ≡ min (len - n * most_runs) most_runs) (sym same) (more d ∙ shape.here d))
          (λ not. others k d not no ∙ shape.others k d (omega (arith, h, size)) not)
          (cases_eq k at);
    }

-- the block in which a run was put has one more
pub more_there : (len at place : ℕ) (bs : List Block) (d b : Block) (run : Run) → AreFilled len bs → at < length bs → place ≤ length (runs_in (get_or bs at d)) → runs_in b ≡ insert (runs_in (get_or bs at d)) place run → HasOneMoreAt len at (set bs at b)
more_there len at place bs d b run fill there within is =
    let one : length (runs_in b) ≡ length (runs_in (get_or bs at d)) + 1 = ap length is ∙ length-insert (runs_in (get_or bs at d)) place run within in
    let long = length-set bs at b in
    record {
      here = λ e. ap (λ x. length (runs_in x)) (get_or-set_same bs at b e there) ∙ one ∙ ap (λ n. n + 1) (fill at d there);
      others = λ k e h off. ap (λ x. length (runs_in x)) (get_or-set_other bs at k b e off) ∙ fill k e (omega (arith, h, long));
    }

-- that from which one was taken lacks one
pub less_there : (len at place : ℕ) (bs : List Block) (d b : Block) → AreFilled len bs → at < length bs → place < length (runs_in (get_or bs at d)) → runs_in b ≡ take place (runs_in (get_or bs at d)) ++ drop (place + 1) (runs_in (get_or bs at d)) → HasOneLessAt len at (set bs at b)
less_there len at place bs d b fill there within is =
    let own = runs_in (get_or bs at d) in
    let next : place + 1 ≡ suc place = omega arith in
    let one : length (runs_in b) + 1 ≡ length own = ap (λ l. length l + 1) (is ∙ ap (λ n. take place own ++ drop n own) next) ∙ length-remove own place within in
    let long = length-set bs at b in
    record {
      here = λ e. ap (λ x. length (runs_in x) + 1) (get_or-set_same bs at b e there) ∙ one ∙ fill at d there;
      others = λ k e h off. ap (λ x. length (runs_in x)) (get_or-set_other bs at k b e off) ∙ fill k e (omega (arith, h, long));
    }

-- the last block with runs takes one more
pub filled_more : (len : ℕ) (bs : List Block) → HasOneMoreAt len (len / most_runs) bs → AreFilled (len + 1) bs
filled_more len bs shape = λ k d h. ⊎_elim
    (λ same. subst (λ n. count_in bs n d ≡ min (len + 1 - n * most_runs) most_runs) (sym same) (let a = shape.here d in omega (arith, a)))
    (λ off. let a = shape.others k d h off in omega (arith, a, off))
    (cases_eq k (len / most_runs))

-- and gives one
pub filled_less : (len : ℕ) (bs : List Block) → 0 < len → HasOneLessAt len ((len - 1) / most_runs) bs → AreFilled (len - 1) bs
filled_less len bs some shape = λ k d h. ⊎_elim
    (λ same. subst (λ n. count_in bs n d ≡ min (len - 1 - n * most_runs) most_runs) (sym same) (let a = shape.here d in omega (arith, a, some)))
    (λ off. let a = shape.others k d h off in omega (arith, a, off, some))
    (cases_eq k ((len - 1) / most_runs))
