-- Every sector of a copy serves a use.
use Rattle.std.proofs.Common.{◌≡◌, ℕ, zero, suc, ◌+◌, ◌⊎◌, inl, inr, List, [], ◌∷◌, ◌++◌, length, map, refl, ap, sym, subst, ◌∙◌, arith, ⊎_elim, length-append}
use Rattle.std.specs.Prelude.{slice_get, slice_index, None, Option, Some}
use Rattle.std.specs.List.{flat_map}
use Rattle.std.proofs.Math.Seq.{get_or-append_right}
use Rattle.std.proofs.lemmas.List.{get_or_append_left}
use Rattle.cfb_sectors.specs.Sectors.{sectors_in}
use Rattle.cfb_tree.specs.Directory.{Entry}
use Rattle.cfb_tree.specs.Names.{CaseTable}
use Rattle.cfb_tree.specs.Tree.{Tree}
use Rattle.cfb_spec.specs.Sound.{in_file, in_mini_stream, Part}
use Rattle.cfb_ownership.specs.Held.{OwnersHoldTree}
use Rattle.cfb_ownership.specs.LiveInvariant.{layout_of}
use Rattle.cfb_ownership.specs.LiveFile.{LiveFile}
use Rattle.cfb_ownership.specs.Owners.{Owners}
use Rattle.cfb_ownership.proofs.SoundIs.{sound_is}
use Rattle.cfb_ownership.proofs.UsedParts.{all_keys, key_of, used_by}
use Rattle.cfb_copying.specs.Copied.{IsFileCopied, IsLongAmong, IsTight, IsPartUsed}
use Rattle.cfb_copying.specs.Making.{IsOneOf}
use Rattle.cfb_copying.proofs.CopiedMeans.{copy_held, copy_ids, now}
use Rattle.cfb_copying.proofs.Restarted.{is_long}

pub one_behind : (xs : List ℕ) (x n : ℕ) → IsOneOf (x ∷ xs) n → (x ≡ n) ⊎ IsOneOf xs n
one_behind xs x n (zero, below, is) = inl is
one_behind xs x n (suc k, below, is) = inr (k, omega (arith, below), is)

used_in_file : (xs : List ℕ) (n : ℕ) → IsOneOf xs n → IsPartUsed (in_file n) (map in_file xs)
used_in_file [] n (k, below, is) = absurd (omega (arith, below))
used_in_file (x ∷ xs) n one = ⊎_elim (λ same. inl (ap in_file (sym same))) (λ behind. inr (used_in_file xs n behind)) (one_behind xs x n one)

used_front : (part : Part) (xs ys : List Part) → IsPartUsed part xs → IsPartUsed part (xs ++ ys)
used_front part [] ys used = absurd used
used_front part (x ∷ xs) ys (inl same) = inl same
used_front part (x ∷ xs) ys (inr behind) = inr (used_front part xs ys behind)

used_behind : (part : Part) (xs ys : List Part) → IsPartUsed part ys → IsPartUsed part (xs ++ ys)
used_behind part [] ys used = used
used_behind part (x ∷ xs) ys used = inr (used_behind part xs ys used)

used_of_key : (part : Part) (f : ℕ → List Part) (keys : List ℕ) (k : ℕ) → IsOneOf keys k → IsPartUsed part (f k) → IsPartUsed part (flat_map f keys)
used_of_key part f [] k (i, below, is) used = absurd (omega (arith, below))
used_of_key part f (x ∷ keys) k one used = ⊎_elim
    (λ same. used_front part (f x) (flat_map f keys) (subst (λ n. IsPartUsed part (f n)) (sym same) used))
    (λ behind. used_behind part (f x) (flat_map f keys) (used_of_key part f keys k behind used))
    (one_behind keys x k one)

pub one_of_two : (xs ys : List ℕ) (n : ℕ) → IsOneOf (xs ++ ys) n → IsOneOf xs n ⊎ IsOneOf ys n
one_of_two [] ys n one = inr one
one_of_two (x ∷ xs) ys n one = ⊎_elim
    (λ same. inl (zero, omega arith, same))
    (λ behind. ⊎_elim (λ front. inl (further xs x n front)) (λ back. inr back) (one_of_two xs ys n behind))
    (one_behind (xs ++ ys) x n one)
  where
    further : (xs : List ℕ) (x n : ℕ) → IsOneOf xs n → IsOneOf (x ∷ xs) n
    further xs x n one = (suc one.0, (let below = one.1 in omega (arith, below)), one.2)

key_among : (ids : List ℕ) (id : ℕ) → IsOneOf ids id → IsOneOf (map key_of ids) (key_of id)
key_among [] id (k, below, is) = absurd (omega (arith, below))
key_among (x ∷ ids) id one = ⊎_elim
    (λ same. (zero, omega arith, ap key_of same))
    (λ behind. let rest = key_among ids id behind in (suc rest.0, (let below = rest.1 in omega (arith, below)), rest.2))
    (one_behind ids x id one)

module _ (s t : LiveFile) (who : Owners) (own : ℕ → List ℕ) (letters : CaseTable) (tree : Tree) (h : OwnersHoldTree s who letters tree) (c : IsFileCopied s who h.ids t own) where
  abbrev keys : List ℕ
  keys = all_keys h.ids

  -- a stream that has sectors is one of the tree's
  key_of_owner : (k n : ℕ) → IsOneOf (own k) n → IsOneOf keys (suc k)
  key_of_owner zero n one = (1, omega arith, refl)
  key_of_owner (suc zero) n one = (2, omega arith, refl)
  key_of_owner (suc (suc zero)) n one = (3, omega arith, refl)
  key_of_owner (suc (suc (suc id))) n one = at_stream (slice_get s.entries id) refl
    where
      nothing_owned : (IsLongAmong s.entries h.ids id → ⊥) → IsOneOf keys (key_of id)
      nothing_owned short = absurd (let none = subst (λ l. IsOneOf l n) (c.none id short) one in let below = none.1 in omega (arith, below))

      at_stream : (o : Option Entry) → slice_get s.entries id ≡ o → IsOneOf keys (key_of id)
      at_stream None is = nothing_owned (λ it. let both : Some it.entry ≡ None = sym it.found ∙ is in cc)
      at_stream (Some e) is = ⊎_elim
          (λ long. let at = key_among h.ids id long.among in (suc (suc (suc (suc at.0))), (let below = at.1 in omega (arith, below)), at.2))
          nothing_owned
          (is_long s.entries c.between h.ids own c.restarts id e is)

  pub copy_tight : IsTight letters t.bytes tree
  unfolding sound_is
  copy_tight = record {
    layout = layout_of t (now s t who own letters tree h c) (copy_held s t who own letters tree h c).root (copy_held s t who own letters tree h c).ids;
    sound = sound_is t (now s t who own letters tree h c) letters tree (copy_held s t who own letters tree h c);
    each = λ n below. subst (λ ids. IsPartUsed (in_file n) (flat_map (used_by t (now s t who own letters tree h c)) (all_keys ids))) (sym (copy_ids s t who own letters tree h c)) (⊎_elim
        (λ table. used_of_key (in_file n) (used_by t (now s t who own letters tree h c)) keys 0 (0, omega arith, refl) (tables_used n table))
        (λ owner. used_of_key (in_file n) (used_by t (now s t who own letters tree h c)) keys (suc owner.0) (key_of_owner owner.0 n owner.1) (used_front (in_file n) (map in_file (own owner.0)) (map in_mini_stream (who.minis owner.0)) (used_in_file (own owner.0) n owner.1)))
        (c.tight n (let size : length t.fat ≡ sectors_in t.version (length t.bytes) = c.tables.orderly.covered ∙ c.tables.counted in omega (arith, below, size))));
  }
    where
      one_swapped : (n : ℕ) → IsOneOf (t.difat_sectors ++ t.fat_sectors) n → IsOneOf (t.fat_sectors ++ t.difat_sectors) n
      one_swapped n one = ⊎_elim
          (λ first. let size = length-append t.fat_sectors t.difat_sectors in (length t.fat_sectors + first.0, (let below = first.1 in omega (arith, below, size)), get_or-append_right t.fat_sectors t.difat_sectors (length t.fat_sectors + first.0) 0 (omega arith) ∙ ap (λ k. slice_index t.difat_sectors k) (omega arith) ∙ first.2))
          (λ second. let size = length-append t.fat_sectors t.difat_sectors in (second.0, (let below = second.1 in omega (arith, below, size)), get_or_append_left t.fat_sectors t.difat_sectors 0 second.0 second.1 ∙ second.2))
          (one_of_two t.difat_sectors t.fat_sectors n one)

      tables_used : (n : ℕ) → IsOneOf (t.difat_sectors ++ t.fat_sectors) n → IsPartUsed (in_file n) (map in_file (t.fat_sectors ++ t.difat_sectors))
      tables_used n one = used_in_file (t.fat_sectors ++ t.difat_sectors) n (one_swapped n one)

  -- its layout is the copy's
  pub tight_layout : copy_tight.layout ≡ layout_of t (now s t who own letters tree h c) (copy_held s t who own letters tree h c).root (copy_held s t who own letters tree h c).ids
  unfolding copy_tight
  tight_layout = refl
