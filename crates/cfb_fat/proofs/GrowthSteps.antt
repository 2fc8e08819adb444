-- Growing calls one after the other, and changes of the FAT among them.
use Rattle.std.proofs.Common.{IsTrue, ◌≡◌, ℕ, ◌+◌, ◌-◌, ◌<◌, ◌≤◌, true, List, [], ◌∷◌, ◌++◌, length, get_or, refl, ap, sym, subst, ◌∙◌, arith, length-append, ⊎_elim, inl, inr, ◌*◌, ◌/◌}
use Rattle.std.proofs.Math.ListN.{set}
use Rattle.std.proofs.lemmas.Bool.Decides.{eqb_tells}
use Rattle.std.proofs.lemmas.List.{length-set, get_or_append_left, get_or-set_same, get_or-set_other}
use Rattle.cfb_chains.specs.Behind.{IsMarkedBehind}
use Rattle.cfb_medium.specs.Versions.{sector_len}
use Rattle.cfb_medium.specs.declared.version.Version.{Version}
use Rattle.cfb_medium.specs.declared.version.Version.TheVariants.{V3, V4}
use Rattle.std.specs.Prelude.{Result, Ok, Err, IfOk, IfErr, OnErr, OnOk, Some}
use Rattle.std.proofs.Math.Seq.{get_or-append_right}
use Rattle.std.proofs.lemmas.Option.{slice_get-get_or}
use Rattle.cfb_medium.specs.declared.medium.ReadMedium.{Ghosts}
use Rattle.cfb_medium.specs.declared.error.Error.{Error}
use Rattle.cfb_sectors.specs.Initial.{first_bytes}
use Rattle.cfb_sectors.specs.Sectors.{end_of_chain, filled_part, free, greatest_regular, sector, sector_start, Chain as IsChain}
use Rattle.cfb_sectors.specs.declared.initial.NewSector.{NewSector}
use Rattle.cfb_fat.specs.Calls.{AllocatesAndFills}
use Rattle.cfb_fat.specs.declared.allocator.Allocator.{Allocator}
use Rattle.cfb_fat.specs.Changing.{ChangesFat, MayWrite, WritesBeside}
use Rattle.cfb_fat.specs.Growing.{GrowsFat}
use Rattle.cfb_chains.specs.Changes.{IsBeside, IsNotIn}
use Rattle.cfb_fat.specs.Tables.{bytes_of, difat_sectors_of, fat_of, fat_sectors_of, has_failed_here, medium_of, sectors_of, tables_of, version_of}
use Rattle.cfb_chains.proofs.Overwriting.{beside, over_longer}
use Rattle.cfb_sectors.specs.Held.{count_of}
use Rattle.cfb_fat.specs.Listed.{Counts, EndsAsStrict}
use Rattle.cfb_chains.proofs.Staying.{apart}
use Rattle.cfb_fat.proofs.Appended.{whole_before}
use Rattle.cfb_fat.proofs.EndsKept.{ends_over}
use Rattle.cfb_fat.proofs.ListedStays.{behind_header, told_over}
use Rattle.cfb_fat.proofs.Listing.{header_whole}
use Rattle.cfb_chains.proofs.Beside.{beside_second}
use Rattle.cfb_fat.proofs.Packed.{not_none}
use Rattle.cfb_medium.specs.Calls.{Reaches}
use Rattle.cfb_fat.specs.Keeping.{grows_then, lean_kept, lean_more, tables_same}
use Rattle.cfb_chains.proofs.LongerTables.{holds_then, never}

module _ {F : Type 0} {g : Ghosts F} where
  pub change_grows : (entries : List ℕ) (a b : Allocator F g) → ChangesFat entries a b → GrowsFat [] entries a b
  change_grows entries a b h = record {
    honest = h.honest;
    continues = h.continues;
    version = h.version;
    live = h.live;
    count = λ live. omega (arith, h.count);
    orderly = λ live. h.orderly;
    fat = λ live. record { size = let same = (h.fat live).size in omega (arith, same); others = λ n below none. (h.fat live).others n none };
    tables = λ live p n fits apart. subst (λ l. IsBeside (version_of a) (l ++ fat_sectors_of b) p n) (sym h.difat_sectors) (subst (λ l. IsBeside (version_of a) (difat_sectors_of a ++ l) p n) (sym h.fat_sectors) apart);
    still = λ live n. (subst (λ l. IsNotIn l n) h.difat_sectors, subst (λ l. IsNotIn l n) h.fat_sectors);
    longer = h.longer;
    lean = λ live. lean_kept [] a b h.version (h.fat live).size h.fat_sectors h.difat_sectors;
    told = λ live honest. holds_then (tables_of a) (tables_of b) (tables_same a b h.difat_sectors h.fat_sectors) (h.told live honest);
    ends = h.ends;
    beside = λ live honest p n fits apart words taken. h.beside live honest p n (beside_second (version_of a) (difat_sectors_of a) (fat_sectors_of a) p n apart);
  }

  -- the same with other entries and sectors, of which the old file's are among these
  pub grows_but : (t e taken entries : List ℕ) (a b : Allocator F g) → length t ≤ length taken → ((n : ℕ) → n < length (fat_of a) → IsNotIn entries n → IsNotIn e n)
      → ((p n : ℕ) → IsBeside (version_of a) taken p n → IsBeside (version_of a) t p n) → GrowsFat t e a b → GrowsFat taken entries a b
  grows_but t e taken entries a b no_more fewer apart h = record {
    honest = h.honest;
    continues = h.continues;
    version = h.version;
    live = h.live;
    count = h.count;
    orderly = h.orderly;
    fat = λ live. record { size = (h.fat live).size; others = λ n below none. (h.fat live).others n below (fewer n below none) };
    tables = h.tables;
    still = h.still;
    longer = h.longer;
    lean = λ live content lean. lean_more (version_of b) (length (fat_of b)) (length (fat_sectors_of b)) (length (difat_sectors_of b)) _ _ (omega (arith, no_more)) (h.lean live content lean);
    told = h.told;
    ends = h.ends;
    beside = λ live honest p n fits tables words aside. h.beside live honest p n fits tables words (apart p n aside);
  }

  -- of one that has failed nothing more is said
  pub grows_failed : (taken entries : List ℕ) (a b : Allocator F g) → g.honest (medium_of b) ≡ g.honest (medium_of a) → Reaches g.continues (medium_of a) (medium_of b) → version_of b ≡ version_of a
      → has_failed_here b ≡ true → GrowsFat taken entries a b
  grows_failed taken entries a b honest continues version failed =
      record {
        honest = honest;
        continues = continues;
        version = version;
        live = never (has_failed_here b) failed;
        count = never (has_failed_here b) failed;
        orderly = never (has_failed_here b) failed;
        fat = never (has_failed_here b) failed;
        tables = never (has_failed_here b) failed;
        still = never (has_failed_here b) failed;
        longer = never (has_failed_here b) failed;
        lean = never (has_failed_here b) failed;
        told = never (has_failed_here b) failed;
        ends = never (has_failed_here b) failed;
        beside = never (has_failed_here b) failed;
      }

  -- an entry of a new sector is changed too
  pub grows_marked : (a b c : Allocator F g) (n : ℕ) → length (fat_of a) ≤ n → GrowsFat [] [] a b → ChangesFat (n ∷ []) b c → GrowsFat [] [] a c
  grows_marked a b c n behind h k = grows_but [] (n ∷ []) [] [] a c (omega arith) (λ m below none. none_behind n m behind below) (λ p m aside. aside) (grows_then [] [] [] (n ∷ []) a b c h (change_grows (n ∷ []) b c k))
    where
      none_behind : (n m : ℕ) → length (fat_of a) ≤ n → m < length (fat_of a) → IsNotIn (n ∷ []) m
      none_behind n m behind below i inside same = let first : i ≡ 0 = omega (arith, inside) in let value : n ≡ m = sym (ap (λ j. get_or (n ∷ []) j 0) first) ∙ same in omega (arith, value, behind, below)

-- one entry more, with a mark
pub marked_one : (fat new : List ℕ) (k x : ℕ) → k ≡ length fat → new ≡ set (fat ++ free ∷ []) k x → get_or new (length fat) 0 ≡ x
marked_one fat new k x at is =
    ap (λ n. get_or new n 0) (sym at) ∙ ap (λ l. get_or l k 0) is ∙ get_or-set_same (fat ++ free ∷ []) k x 0 (let long = length-append fat (free ∷ []) in omega (arith, long, at))

-- two
pub marked_two : (fat new : List ℕ) (k x y : ℕ) → k ≡ length fat → new ≡ set (set (fat ++ free ∷ free ∷ []) k x) (k + 1) y → (get_or new (length fat) 0 ≡ x) × (get_or new (length fat + 1) 0 ≡ y)
marked_two fat new k x y at is =
    let all = fat ++ free ∷ free ∷ [] in
    let long = length-append fat (free ∷ free ∷ []) in
    let mid = length-set all k x in (
      ap (λ n. get_or new n 0) (sym at) ∙ ap (λ l. get_or l k 0) is ∙ get_or-set_other (set all k x) (k + 1) k y 0 (omega arith) ∙ get_or-set_same all k x 0 (omega (arith, long, at)),
      ap (λ n. get_or new (n + 1) 0) (sym at) ∙ ap (λ l. get_or l (k + 1) 0) is ∙ get_or-set_same (set all k x) (k + 1) y 0 (omega (arith, mid, long, at)),
    )

-- a table that was marked behind its end, and then got an entry of a sector that was taken
pub marked_appended : (old mid new ds fs later_ds later_fs : List ℕ) (n x : ℕ) → n ≡ length mid → new ≡ mid ++ x ∷ [] → later_ds ≡ ds → later_fs ≡ fs → IsMarkedBehind ds fs [] [] old mid
    → IsMarkedBehind later_ds later_fs (n ∷ []) (n ∷ []) old new
marked_appended old mid new ds fs later_ds later_fs n x at is same_ds same_fs marked k past below none unset =
    let size = ap length is ∙ length-append mid (x ∷ []) in
    let front : k < length mid = ⊎_elim (λ here. absurd (none 0 (omega arith) (at ∙ sym here.1))) (λ off. let differ = off.1 in omega (arith, differ, size, below)) (eqb_tells k (length mid)) in
    let same : get_or new k 0 ≡ get_or mid k 0 = ap (λ l. get_or l k 0) is ∙ get_or_append_left mid (x ∷ []) 0 k front in
    ⊎_elim
    (λ told. inl ((λ beside. told.0 (subst (λ l. IsNotIn l k) same_ds beside)), same ∙ told.1))
    (λ told. inr ((λ beside. told.0 (subst (λ l. IsNotIn l k) same_fs beside)), same ∙ told.1))
    (marked k past front (λ i inside equal. omega (arith, inside)) (λ i inside equal. omega (arith, inside)))

-- a number that a list ends with
pub named_last : (fs now : List ℕ) (n k : ℕ) → now ≡ fs ++ k ∷ [] → n ≡ k → IsNotIn now n → ⊥
named_last fs now n k is same none = not_none fs k (subst (IsNotIn (fs ++ k ∷ [])) same (subst (λ l. IsNotIn l n) is none))

pub room_after : (v : Version) (size fat_count more new count : ℕ) → size ≡ fat_count * (sector_len v / 4) → more ≤ 2 → new ≡ size + more → count ≡ fat_count + 1 → new < count * (sector_len v / 4)
room_after V3 size fat_count more new count full few is sum = omega (arith, full, few, is, sum)
room_after V4 size fat_count more new count full few is sum = omega (arith, full, few, is, sum)

module _ {F : Type 0} {g : Ghosts F} where
  -- a sector beside the tables is filled anew
  pub write_grows : (n : ℕ) (bytes : List ℕ) (a b : Allocator F g) → 0 < count_of (sectors_of a) → n < count_of (sectors_of a) → IsNotIn (difat_sectors_of a) n → length bytes ≡ sector_len (version_of a) → WritesBeside (sector_start (version_of a) n) bytes a b → GrowsFat (n ∷ []) [] a b
  write_grows n bytes a b some there none long h = record {
    honest = h.sectors.0.honest;
    continues = h.sectors.0.continues;
    version = h.sectors.0.version;
    live = h.sectors.0.live;
    count = λ live. omega (arith, h.sectors.1);
    orderly = λ live. h.orderly;
    fat = λ live. record { size = omega (arith, ap length h.fat); others = λ m below none. ap (λ l. get_or l m 0) h.fat };
    tables = λ live p k fits apart. subst (λ l. IsBeside (version_of a) (l ++ fat_sectors_of b) p k) (sym h.difat_sectors) (subst (λ l. IsBeside (version_of a) (difat_sectors_of a ++ l) p k) (sym h.fat_sectors) apart);
    still = λ live m. (subst (λ l. IsNotIn l m) h.difat_sectors, subst (λ l. IsNotIn l m) h.fat_sectors);
    longer = λ live honest. subst (λ l. length (bytes_of a) ≤ length l) (sym (h.sectors.0.bytes live honest)) (over_longer (bytes_of a) bytes (sector_start (version_of a) n));
    lean = λ live. lean_kept (n ∷ []) a b h.sectors.0.version (ap length h.fat) h.fat_sectors h.difat_sectors;
    told = λ live honest. holds_then (tables_of a) (tables_of b) (tables_same a b h.difat_sectors h.fat_sectors) (λ told.
        subst (λ l. Counts (bytes_of b) l (fat_sectors_of b)) (sym h.difat_sectors) (subst (Counts (bytes_of b) (difat_sectors_of a)) (sym h.fat_sectors)
        (told_over (bytes_of a) (bytes_of b) bytes (difat_sectors_of a) (fat_sectors_of a) (sector_start (version_of a) n) (h.sectors.0.bytes live honest) (behind_header (version_of a) n)
        (header_whole (version_of a) (bytes_of a) (count_of (sectors_of a)) (a.sectors.counted (h.sectors.0.live live) honest) some) told)));
    ends = λ live honest orderly ends.
        let v = version_of a in
        let far = behind_header v n in
        subst (EndsAsStrict (version_of b) (bytes_of b)) (sym h.difat_sectors)
        (ends_over v (version_of b) (bytes_of a) (bytes_of b) bytes (difat_sectors_of a) (fat_sectors_of a) (sector_start v n) (count_of (sectors_of a)) h.sectors.0.version (h.sectors.0.bytes live honest)
        (a.sectors.counted (h.sectors.0.live live) honest) some (subst (λ k. sector_start v n + k ≤ sector_start v (count_of (sectors_of a))) (sym long) (whole_before v n (count_of (sectors_of a)) there))
        (inr (inr (omega (arith, far)))) (subst (IsBeside v (difat_sectors_of a) (sector_start v n)) (sym long) (apart v (difat_sectors_of a) n none)) ((a.listed (h.sectors.0.live live) honest).0 orderly).1 ends);
    beside = λ live honest p k fits apart words taken.
        ap (λ l. filled_part l p k) (h.sectors.0.bytes live honest)
        ∙ beside (bytes_of a) bytes (sector_start (version_of a) n) p k (⊎_elim (λ before. inr (omega (arith, before, long))) (λ behind. inl (omega (arith, behind))) (taken 0 (omega arith)));
  }

module _ {F : Type 0} {g : Ghosts F} where
  -- tables became longer, and then longer again
  pub grows_again : (a b c : Allocator F g) → GrowsFat [] [] a b → GrowsFat [] [] b c → GrowsFat [] [] a c
  grows_again = grows_then [] [] [] []

  -- tables became longer, and then a sector came into use
  pub occupies_after : (init : NewSector) (a b c : Allocator F g) (n : ℕ) → GrowsFat [] [] a b → AllocatesAndFills init b c n → AllocatesAndFills init a c n
  occupies_after init a b c n h k = record {
    grows = grows_then [] [] (n ∷ []) (n ∷ []) a b c h k.grows;
    fresh = record {
      filled = λ honest. subst (λ v. sector v (bytes_of c) n ≡ first_bytes init (sector_len v)) h.version (k.fresh.filled (subst IsTrue (sym h.honest) honest));
      writable = subst (λ v. MayWrite c (sector_start v n) (sector_len v)) h.version k.fresh.writable;
    };
    whole = λ honest. k.whole (subst IsTrue (sym h.honest) honest);
  }

pub ok_two : {T : Type 0} (r : Result T Error) (P Q R : T → Type 0) → IfOk r P → IfOk r Q → ((x : T) → P x → Q x → R x) → IfOk r R
ok_two (Ok x) P Q R p q f = f x p q
ok_two (Err e) P Q R p q f = tt

pub ok_map : {T : Type 0} (r : Result T Error) (P Q : T → Type 0) → IfOk r P → ((x : T) → P x → Q x) → IfOk r Q
ok_map (Ok x) P Q h f = f x h
ok_map (Err e) P Q h f = tt

pub err_map : {T : Type 0} (r : Result T Error) (P Q : Error → Type 0) → IfErr r P → ((e : Error) → P e → Q e) → IfErr r Q
err_map (Ok x) P Q h f = tt
err_map (Err e) P Q h f = f e h

pub err_both : {T : Type 0} (r : Result T Error) (P : Error → Type 0) (X : Type 0) (Q : Error → Type 0) → IfErr r P → OnErr r X → ((e : Error) → P e → X → Q e) → IfErr r Q
err_both (Ok x) P X Q h k f = tt
err_both (Err e) P X Q h k f = f e h k

pub on_ok_map : {T : Type 0} (r : Result T Error) (X Y : Type 0) → OnOk r X → (X → Y) → OnOk r Y
on_ok_map (Ok x) X Y h f = f h
on_ok_map (Err e) X Y h f = tt

pub on_ok_all : {T : Type 0} (r : Result T Error) (X Y Z W : Type 0) → OnOk r X → OnOk r Y → OnOk r Z → (X → Y → Z → W) → OnOk r W
on_ok_all (Ok x) X Y Z W a b c f = f a b c
on_ok_all (Err e) X Y Z W a b c f = tt

pub on_err : {T : Type 0} (r : Result T Error) (X : Type 0) → X → OnErr r X
on_err (Ok x) X h = tt
on_err (Err e) X h = h

pub on_err_map : {T : Type 0} (r : Result T Error) (X Y : Type 0) → OnErr r X → (X → Y) → OnErr r Y
on_err_map (Ok x) X Y h f = tt
on_err_map (Err e) X Y h f = f h

pub ok_both : {T : Type 0} (r : Result T Error) (P Q : T → Type 0) (X : Type 0) → IfOk r P → OnOk r X → ((x : T) → P x → X → Q x) → IfOk r Q
ok_both (Ok x) P Q X h k f = f x h k
ok_both (Err e) P Q X h k f = tt

-- an appended entry is a chain of its own
pub chain_one : (fat new : List ℕ) (n : ℕ) → new ≡ fat ++ end_of_chain ∷ [] → n ≡ length fat → length fat ≤ greatest_regular → IsChain new n (n ∷ [])
chain_one fat new n is at few =
    let size = ap length is ∙ length-append fat (end_of_chain ∷ []) in
    let none : n - length fat ≡ 0 = omega (arith, at) in
    let value : get_or new n 0 ≡ end_of_chain = ap (λ l. get_or l n 0) is ∙ get_or-append_right fat (end_of_chain ∷ []) n 0 (omega (arith, at)) ∙ ap (λ i. get_or (end_of_chain ∷ []) i 0) none in
    (refl, omega (arith, at, few), end_of_chain, slice_get-get_or new n 0 (omega (arith, size, at)) ∙ ap Some value, refl)
