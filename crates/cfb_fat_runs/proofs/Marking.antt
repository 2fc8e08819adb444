-- Runs that are freed whole.
use Rattle.std.proofs.Common.{◌≡◌, ◌+◌, ◌-◌, suc, ◌<◌, ◌≤◌, ◌⊎◌, ℕ, List, ◌∷◌, ◌++◌, length, map, take, drop, get_or, refl, sym, ap, subst, ◌∙◌, arith, ⊎_elim, inl, inr}
use Rattle.std.proofs.Math.ListN.{set}
use Rattle.std.specs.List.{range_with_len}
use Rattle.std.proofs.lemmas.Bool.{cases_lt}
use Rattle.std.proofs.lemmas.List.{get_or_past, set_split}
use Rattle.std.proofs.lemmas.List.FromFn.{get_or-map-range_with_len, length-map-range_with_len}
use Rattle.cfb_sectors.specs.Sectors.{end_of_chain, free}
use Rattle.cfb_fat_runs.specs.Freeing.{FreesFirst, FreesFrom}
use Rattle.cfb_fat_runs.specs.Runs.{entry_at, start_of, AreTiled, IsRight}
use Rattle.cfb_fat_runs.specs.declared.runs.Kind.TheVariants.{Special}
use Rattle.cfb_fat_runs.specs.declared.runs.Run.{Run}
use Rattle.cfb_fat_runs.proofs.Edited.{skip_front, split_one}
use Rattle.cfb_fat_runs.proofs.Splicing.{above, back_tiled, below, entry_in_place, tiled_in, tiled_least}

-- the sectors of a run are free
pub record FreesRun (len at stop : ℕ) (xs ys : List Run) : Type 0 where
  pub tiled : AreTiled 0 len ys
  pub after : at < stop
  pub most : stop ≤ len
  pub here : (k : ℕ) → at ≤ k → k < stop → entry_at len ys k ≡ free
  pub others : (k : ℕ) → k < len → (k < at) ⊎ (stop ≤ k) → entry_at len ys k ≡ entry_at len xs k

free_right : IsRight (Special free)
free_right = (omega arith, λ (e : free ≡ end_of_chain). omega (arith, e))

pub mark_made : (len p at : ℕ) (xs : List Run) (m : Run) → AreTiled 0 len xs → p < length xs → m ≡ get_or xs p m → m.first ≡ at
    → FreesRun len at (start_of len (drop (p + 1) xs)) xs (set xs p (record { first = m.first; kind = Special free }))
mark_made len p at xs m tiled inside is first =
    let back = drop (p + 1) xs in
    let front = take p xs in
    let new : Run = record { first = m.first; kind = Special free } in
    let old = split_one xs p m inside is in
    let now : set xs p new ≡ front ++ new ∷ back = set_split xs p new inside ∙ ap (λ n. front ++ new ∷ drop n xs) (let e : suc p ≡ p + 1 = omega arith in e) in
    let t : AreTiled 0 len (front ++ m ∷ back) = subst (AreTiled 0 len) old tiled in
    let t_now : AreTiled 0 len (front ++ new ∷ back) = tiled_in 0 len front (m ∷ back) (new ∷ back) refl (λ k s. (s.0, s.1, free_right, s.3)) t in
    let rest = back_tiled 0 len front (m ∷ back) t in
    let some = rest.1 in
    record {
      tiled = subst (AreTiled 0 len) (sym now) t_now;
      after = omega (arith, some, first);
      most = tiled_least (start_of len back) len back rest.3;
      here = λ k from to. ap (λ l. entry_at len l k) now ∙ skip_front 0 len k front (new ∷ back) t_now (omega (arith, from, first)) ∙ below k (start_of len back) _ _ to;
      others = λ k less out. ap (λ l. entry_at len l k) now ∙ sym (ap (λ l. entry_at len l k) old ∙ entry_in_place 0 len k front (m ∷ back) (new ∷ back) refl t (omega arith)
          (λ past. ⊎_elim
          (λ low. absurd (omega (arith, low, past, first)))
          (λ high. above k (start_of len back) _ _ high ∙ sym (above k (start_of len back) _ _ high))
          out));
    }

pub freed_entries : (len at stop : ℕ) (xs ys : List Run) → FreesRun len at stop xs ys → FreesFrom at stop (map (entry_at len xs) (range_with_len 0 len)) (map (entry_at len ys) (range_with_len 0 len))
freed_entries len at stop xs ys did =
    let old = map (entry_at len xs) (range_with_len 0 len) in
    let new = map (entry_at len ys) (range_with_len 0 len) in
    let size_old : length old ≡ len = length-map-range_with_len (entry_at len xs) 0 len in
    let size_new : length new ≡ len = length-map-range_with_len (entry_at len ys) 0 len in
    let most = did.most in
    record {
      size = size_new ∙ sym size_old;
      here = λ n from to. get_or-map-range_with_len (entry_at len ys) 0 len n n 0 (omega (arith, to, most)) (omega arith) ∙ did.here n from to;
      others = λ n out. ⊎_elim
          (λ less. get_or-map-range_with_len (entry_at len ys) 0 len n n 0 less (omega arith) ∙ did.others n less out ∙ sym (get_or-map-range_with_len (entry_at len xs) 0 len n n 0 less (omega arith)))
          (λ past. get_or_past new n 0 (omega (arith, past, size_new)) ∙ sym (get_or_past old n 0 (omega (arith, past, size_old))))
          (cases_lt n len);
    }

-- nothing is freed yet
pub frees_none : (at : ℕ) (old new : List ℕ) → new ≡ old → FreesFrom at at old new
frees_none at old new same = record {
  size = ap length same;
  here = λ n from to. absurd (omega (arith, from, to));
  others = λ n out. ap (λ l. get_or l n 0) same;
}

-- a stretch more is free
pub frees_more : (place next stop : ℕ) (sectors old mid new : List ℕ) → place < next → ((k : ℕ) → place ≤ k → k < next → get_or sectors k 0 + place ≡ get_or sectors place 0 + k) → stop ≡ get_or sectors (next - 1) 0 + 1
    → FreesFirst place sectors old mid → FreesFrom (get_or sectors place 0) stop mid new → FreesFirst next sectors old new
frees_more place next stop sectors old mid new more consecutive is_stop before did =
    let first = get_or sectors place 0 in
    let last = consecutive (next - 1) (omega (arith, more)) (omega (arith, more)) in
    let width : stop + place ≡ first + next = omega (arith, is_stop, last, more) in
    record {
      size = did.size ∙ before.size;
      here = λ k less.
          let n = get_or sectors k 0 in
          ⊎_elim
          (λ early. ⊎_elim
          (λ low. did.others n (inl low) ∙ before.here k early)
          (λ from. ⊎_elim
          (λ to. did.here n from to)
          (λ high. did.others n (inr high) ∙ before.here k early)
          (cases_lt n stop))
          (cases_lt n first))
          (λ late. let at = consecutive k late less in did.here n (omega (arith, at, late)) (omega (arith, at, width, less)))
          (cases_lt k place);
      others = λ n none.
          let old_one = before.others n (λ k less. none k (omega (arith, less, more))) in
          ⊎_elim
          (λ low. did.others n (inl low) ∙ old_one)
          (λ from. ⊎_elim
          (λ to. let k : ℕ = place + (n - first) in
          let at = consecutive k (omega arith) (omega (arith, to, width, from)) in
          absurd (none k (omega (arith, to, width, from)) (omega (arith, at, from))))
          (λ high. did.others n (inr high) ∙ old_one)
          (cases_lt n stop))
          (cases_lt n first);
    }
