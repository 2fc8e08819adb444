-- Header and DIFAT list one pair of tables.
use Rattle.std.proofs.Common.{◌≡◌, ℕ, ◌+◌, ◌-◌, ◌<◌, ◌≤◌, List, [], ◌∷◌, ◌++◌, length, take, replicate, get_or, ap, sym, subst, ◌∙◌, arith, ⊎_elim, length-append, suc, IsTrue, Bool, ◌↔◌}
use Rattle.std.proofs.Math.Seq.{get_or-append_right, take-append_seam}
use Rattle.std.proofs.lemmas.Bool.Decides.{leb_tells}
use Rattle.std.proofs.lemmas.List.{get_or_append_left, get_or-replicate, length-replicate, take_all}
use Rattle.cfb_medium.specs.declared.medium.ReadMedium.{Ghosts}
use Rattle.cfb_medium.specs.declared.version.Version.{Version}
use Rattle.cfb_medium.specs.declared.version.Version.TheVariants.{V3, V4}
use Rattle.cfb_sectors.specs.Held.{bytes_of, count_of, version_of, IsHonest, OnlyReadsSectors}
use Rattle.cfb_sectors.specs.Sectors.{difat, free, greatest_regular, sectors_in}
use Rattle.cfb_sectors.specs.declared.sectors.Sectors.{Sectors}
use Rattle.cfb_sectors.proofs.OneChain.{difat_unique}
use Rattle.cfb_fat.specs.Listed.{Lists}
use Rattle.cfb_fat.specs.Orderly.{AreBelow, AreTablesConsistent}
use Rattle.std.proofs.Props.{props}
use Rattle.std.proofs.lemmas.Grind.{merely}
use mathlib.Core.Logic.{∥∥₁_elim}
use Rattle.cfb_fat.proofs.DifatChains.{stop_high}
use Rattle.cfb_fat.proofs.Joining.{take_more}

-- of two lists that "free" entries make the same the longer ends in "free"
longer : (xs ys : List ℕ) (n m : ℕ) → xs ++ replicate n free ≡ ys ++ replicate m free → length xs < length ys → get_or ys (length ys - 1) 0 ≡ free
longer xs ys n m same less =
    let last = length ys - 1 in
    let sizes : length xs + length (replicate n free) ≡ length ys + length (replicate m free) = sym (length-append xs (replicate n free)) ∙ ap length same ∙ length-append ys (replicate m free) in
    let many = length-replicate n free in
    sym (get_or_append_left ys (replicate m free) 0 last (omega (arith, less))) ∙ ap (λ l. get_or l last 0) (sym same)
    ∙ get_or-append_right xs (replicate n free) last 0 (omega (arith, less)) ∙ get_or-replicate n (last - length xs) free 0 (omega (arith, less, sizes, many))

no_end : (xs : List ℕ) → 0 < length xs → ((front : List ℕ) → xs ≡ front ++ free ∷ [] → ⊥) → get_or xs (length xs - 1) 0 ≡ free → ⊥
no_end xs some never is =
    let last = length xs - 1 in
    let all : last + 1 ≡ length xs = omega (arith, some) in
    never (take last xs) (sym (take_all (length xs) xs (omega arith)) ∙ ap (λ n. take n xs) (sym all) ∙ take_more xs last (omega (arith, some)) ∙ ap (λ x. take last xs ++ x ∷ []) is)

-- "free" entries behind two lists that don't end in "free"
same_front : (xs ys : List ℕ) (n m : ℕ) → xs ++ replicate n free ≡ ys ++ replicate m free → (get_or xs (length xs - 1) 0 ≡ free → ⊥) → (get_or ys (length ys - 1) 0 ≡ free → 0 < length ys → ⊥) → xs ≡ ys
same_front xs ys n m same first second = ⊎_elim
    (λ more. ⊎_elim
    (λ less. let equal : length xs ≡ length ys = omega (arith, more.1, less.1) in
    sym (take-append_seam xs (replicate n free)) ∙ ap (λ l. take (length xs) l) same ∙ ap (λ k. take k (ys ++ replicate m free)) equal ∙ take-append_seam ys (replicate m free))
    (λ behind. absurd (first (longer ys xs m n (sym same) behind.1)))
    (leb_tells (length xs) (length ys)))
    (λ ahead. absurd (second (longer xs ys n m same ahead.1) (omega (arith, ahead.1))))
    (leb_tells (length ys) (length xs))

regular_end : (count : ℕ) (xs : List ℕ) → count ≤ greatest_regular + 1 → AreBelow count xs → get_or xs (length xs - 1) 0 ≡ free → ⊥
regular_end count [] few below is = absurd (cc)
regular_end count (x ∷ xs) few below is = let less = below (length xs) (omega arith) in let last : suc (length xs) - 1 ≡ length xs = omega arith in omega (arith, less, few, sym (ap (λ n. get_or (x ∷ xs) n 0) last) ∙ is)

pub lists_same : (v : Version) (b ds fs found_ds found_fs : List ℕ) (count : ℕ) → count ≤ greatest_regular + 1 → AreBelow count fs → ((front : List ℕ) → found_fs ≡ front ++ free ∷ [] → ⊥) → Lists v b ds fs → Lists v b found_ds found_fs
    → (found_ds ≡ ds) × (found_fs ≡ fs)
lists_same v b ds fs found_ds found_fs count few below never h k =
    let same : found_ds ≡ ds = (difat_unique v b _ found_ds ds k.stop h.stop (stop_high k.stop k.stops) (stop_high h.stop h.stops) k.chain h.chain).0 in
    (same, sym (same_front fs found_fs h.unused k.unused (sym h.entries ∙ ap (difat v b) (sym same) ∙ k.entries) (regular_end count fs few below) (λ ends some. no_end found_fs some never ends)))

pub header_whole : (v : Version) (b : List ℕ) (count : ℕ) → count ≡ sectors_in v (length b) → 0 < count → 512 ≤ length b
header_whole V3 b count counted some = omega (arith, counted, some)
header_whole V4 b count counted some = omega (arith, counted, some)

module _ {F : Type 0} {g : Ghosts F} where
  -- what was listed after reads was listed before
  pub listed_before : (a b : Sectors F g) (ds fs : List ℕ) → OnlyReadsSectors a b → IsHonest a → 512 ≤ length (bytes_of a) → (IsHonest b → 512 ≤ length (bytes_of b) → Lists (version_of b) (bytes_of b) ds fs) → Lists (version_of a) (bytes_of a) ds fs
  listed_before a b ds fs rests honest whole read =
      subst (λ v. Lists v (bytes_of a) ds fs) rests.version (subst (λ l. Lists (version_of b) l ds fs) (rests.bytes honest)
      (read (subst IsTrue (sym rests.honest) honest) (subst (λ l. 512 ≤ length l) (sym (rests.bytes honest)) whole)))

  pub listed_after : (a b : Sectors F g) (ds fs : List ℕ) → OnlyReadsSectors a b → IsHonest a → 512 ≤ length (bytes_of a) → (IsHonest b → 512 ≤ length (bytes_of b) → (xs ys : List ℕ) → Lists (version_of b) (bytes_of b) xs ys → ⊥) → Lists (version_of a) (bytes_of a) ds fs → ⊥
  listed_after a b ds fs rests honest whole none lists =
      none (subst IsTrue (sym rests.honest) honest) (subst (λ l. 512 ≤ length l) (sym (rests.bytes honest)) whole) ds fs
      (subst (λ v. Lists v (bytes_of b) ds fs) (sym rests.version) (subst (λ l. Lists (version_of a) l ds fs) (sym (rests.bytes honest)) lists))

  pub order_before : (a b : Sectors F g) (fat fs ds : List ℕ) → OnlyReadsSectors a b → AreTablesConsistent (version_of b) (count_of b) fat fs ds → AreTablesConsistent (version_of a) (count_of a) fat fs ds
  order_before a b fat fs ds rests h = subst (λ v. AreTablesConsistent v (count_of a) fat fs ds) rests.version (subst (λ n. AreTablesConsistent (version_of b) n fat fs ds) rests.count h)

  pub order_after : (a b : Sectors F g) (fat fs ds : List ℕ) → OnlyReadsSectors a b → AreTablesConsistent (version_of a) (count_of a) fat fs ds → AreTablesConsistent (version_of b) (count_of b) fat fs ds
  order_after a b fat fs ds rests h = subst (λ v. AreTablesConsistent v (count_of b) fat fs ds) (sym rests.version) (subst (λ n. AreTablesConsistent (version_of a) n fat fs ds) (sym rests.count) h)

  -- what was found of the tables stands after reads
  pub listed_still_read : (a b : Sectors F g) (is : Bool) (fat fs ds : List ℕ) → OnlyReadsSectors a b → IsHonest a → (IsTrue is ↔ (AreTablesConsistent (version_of a) (count_of a) fat fs ds × Lists (version_of a) (bytes_of a) ds fs))
      → IsTrue is ↔ (AreTablesConsistent (version_of b) (count_of b) fat fs ds × ∥ Lists (version_of b) (bytes_of b) ds fs ∥₁)
  listed_still_read a b is fat fs ds rests honest h = (
    λ holds. let both = h.0 holds in
        (order_after a b fat fs ds rests both.0, merely (subst (λ v. Lists v (bytes_of b) ds fs) (sym rests.version) (subst (λ l. Lists (version_of a) l ds fs) (sym (rests.bytes honest)) both.1))),
    λ both. ∥∥₁_elim both.1 (hlevel props) (λ listed. h.1 (
      order_before a b fat fs ds rests both.0,
      subst (λ v. Lists v (bytes_of a) ds fs) rests.version (subst (λ l. Lists (version_of b) l ds fs) (rests.bytes honest) listed),
    )),
  )
