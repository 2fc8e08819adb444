-- What a recovery makes of what the steps of a commit leave.
use Rattle.std.proofs.Common.{◌⊎◌, inl, inr, ⊎_elim, ◌≡◌, ◌≢◌, ◌≤◌, ◌*◌, ℕ, Bool, true, false, IsTrue, ◌==◌, ◌&&◌, nat_lt, cond, List, ◌∷◌, length, get_or, drop, Some, refl, sym, ◌∙◌, ap, subst, arith}
use Rattle.std.proofs.lemmas.Bool.{eqb-true}
use Rattle.cfb_medium.specs.Crashes.{CrashLeavesOnly}
use Rattle.staged.specs.Files.{Files}
use Rattle.staged.specs.Device.{Torn}
use Rattle.staged.specs.Pages.{Covers, laid_over}
use Rattle.staged.specs.Log.{logged, recovered, ClosedLog, OpenLog, MalformedLog, has_open_gate, is_whole, leads, length_in, pages_in}
use Rattle.staged.specs.Steps.{MakesOnlyWrites, IsDurable, AtGate, IsBehindLogFlag, AtPage, RecoversEither, RecoversAlike}
use Rattle.staged.specs.declared.device.Device.{Ghosts}
use Rattle.staged.specs.declared.device.Which.TheVariants.{Home, Log}
use Rattle.staged.specs.declared.pages.Page.{Page}
use Rattle.staged.proofs.Torn.{TornPages, torn_more, torn_recovers, whole_gives, gate_gives, closed_gives, shut, short_gate, behind_gate, torn_again, none_torn}
use Rattle.staged.proofs.Leaving.{leaves_then, leaves_told}
use Rattle.staged.proofs.Reaching.{leaves_from}
use Rattle.staged.proofs.Steps.{same_files}

-- a gate that is closed is no 01 before other bytes
pub closed_gate : (files : Files) → logged files ≡ ClosedLog → has_open_gate files.log ≡ false
closed_gate files closed = go (has_open_gate files.log) (is_whole files.log && leads (pages_in files.log) (length files.home) (length_in files.log)) closed
  where
    go : (gate whole : Bool) → cond gate (cond whole (OpenLog (length_in files.log) (pages_in files.log)) MalformedLog) ClosedLog ≡ ClosedLog → gate ≡ false
    go false whole is = refl
    go true true is = absurd (cc is)
    go true false is = absurd (cc is)

other_gate : (log : List ℕ) → get_or log 0 0 ≢ 1 → has_open_gate log ≡ false
other_gate log other = go (get_or log 0 0 == 1) refl
  where
    go : (b : Bool) → (get_or log 0 0 == 1) ≡ b → (b && nat_lt 1 (length log)) ≡ false
    go true is = absurd (other (eqb-true (get_or log 0 0) 1 is))
    go false is = refl

module _ {D : Type 0} (g : Ghosts D) (counts_now : (d : D) (t : ℕ) (x : Files) → t ≤ g.moment d → g.crash_may_leave d x → g.crash_left_since d t x) (a b : D) (honest : IsTrue (g.honest a)) (lasts : IsDurable g a) where
  -- a first gate
  pub first_gate_gives : logged (g.content a) ≡ ClosedLog → MakesOnlyWrites g Log (λ at n. AtGate at n × length (g.content a).log ≤ 1) a b → CrashLeavesOnly g.moment g.crash_left_since a b (λ x. recovered x ≡ Some (g.content a).home)
  first_gate_gives closed steps =
      let files = g.content a in
      let P : Files → Type 0 = λ x. (x.home ≡ files.home) × ((x ≡ files) ⊎ (length x.log ≤ 1)) in
      leaves_told g.moment g.crash_left_since a b P _
      (leaves_from Log _ g counts_now a b P steps honest lasts (refl, inl refl) (λ x y at n may p cut. (
        ap (λ (f : Files). f.home) cut.other ∙ p.0,
        inr (let size : length x.log ≤ 1 = ⊎_elim (λ same. omega (arith, ap (λ (f : Files). length f.log) same, may.1)) (λ short. short) p.1 in
            let no_longer = cut.torn.no_longer in omega (arith, size, no_longer, may.0.0, may.0.1)),
      )))
      (λ x p. ⊎_elim (λ same. ap recovered same ∙ closed_gives files closed) (λ short. shut x (short_gate x.log short) ∙ ap (λ (l : List ℕ). Some l) p.0) p.1)

  -- what stands behind a closed gate
  pub behind_gives : get_or (g.content a).log 0 0 ≢ 1 → MakesOnlyWrites g Log IsBehindLogFlag a b → CrashLeavesOnly g.moment g.crash_left_since a b (λ x. recovered x ≡ Some (g.content a).home)
  behind_gives other steps =
      let files = g.content a in
      let P : Files → Type 0 = λ x. (x.home ≡ files.home) × (get_or x.log 0 0 ≡ get_or files.log 0 0) in
      leaves_told g.moment g.crash_left_since a b P _
      (leaves_from Log IsBehindLogFlag g counts_now a b P steps honest lasts (refl, refl) (λ x y at n may p cut. (ap (λ (f : Files). f.home) cut.other ∙ p.0, behind_gate at n x.log y.log may cut.torn ∙ p.1)))
      (λ x p. shut x (other_gate x.log (λ is. other (sym p.1 ∙ is))) ∙ ap (λ (l : List ℕ). Some l) p.0)

  module _ (home log : List ℕ) (pages : List Page) (len : ℕ) (is_open : logged (record { home = home; log = 1 ∷ drop 1 log }) ≡ OpenLog len pages) (covers : Covers pages (length home) len) where
    abbrev opened : List ℕ
    opened = 1 ∷ drop 1 log

    at_gate : (start x y : List ℕ) (at n : ℕ) → AtGate at n → Torn 0 1 start x → Torn at n x y → Torn 0 1 start y
    at_gate start x y at n may so_far cut = torn_again 0 1 start x y so_far (subst (λ (k : ℕ). Torn 0 k x y) may.1 (subst (λ (k : ℕ). Torn k n x y) may.0 cut))

    -- the gate before a whole log
    pub opening_gives : 1 ≤ length log → g.content a ≡ record { home = home; log = log } → MakesOnlyWrites g Log AtGate a b → CrashLeavesOnly g.moment g.crash_left_since a b (RecoversEither home (laid_over home pages len))
    opening_gives some is steps =
        let P : Files → Type 0 = λ x. (x.home ≡ home) × Torn 0 1 log x.log in
        leaves_told g.moment g.crash_left_since a b P _
        (leaves_from Log AtGate g counts_now a b P steps honest lasts (subst P (sym is) (refl, none_torn 0 1 log)) (λ x y at n may p cut. (ap (λ (f : Files). f.home) cut.other ∙ p.0, at_gate log x.log y.log at n may p.1 cut.torn)))
        (λ x p. gate_gives home log pages len x some is_open p.0 p.1)

    -- the pages, behind an open gate
    pub writing_gives : g.content a ≡ record { home = home; log = opened } → MakesOnlyWrites g Home (AtPage pages len) a b → CrashLeavesOnly g.moment g.crash_left_since a b (λ x. recovered x ≡ Some (laid_over home pages len))
    writing_gives is steps =
        let P : Files → Type 0 = λ x. (x.log ≡ opened) × TornPages home pages len x.home in
        leaves_told g.moment g.crash_left_since a b P _
        (leaves_from Home (AtPage pages len) g counts_now a b P steps honest lasts
        (subst P (sym is) (refl, record { no_shorter = omega arith; no_longer = covers.no_shorter; apart = λ i within none. refl }))
        (λ x y at n may p cut. (ap (λ (f : Files). f.log) cut.other ∙ p.0, torn_more home pages len may.0 x.home y.home may.1 (covers.inside may.0 may.1) (subst (λ (k : ℕ). Torn (512 * may.0) k x.home y.home) may.3 (subst (λ (k : ℕ). Torn k n x.home y.home) may.2 cut.torn)) p.1)))
        (λ x p. ap recovered (same_files x x.home opened refl p.0) ∙ torn_recovers home opened pages len x.home is_open p.1)

    -- the gate behind the pages
    pub closing_gives : g.content a ≡ record { home = laid_over home pages len; log = opened } → MakesOnlyWrites g Log AtGate a b → CrashLeavesOnly g.moment g.crash_left_since a b (λ x. recovered x ≡ Some (laid_over home pages len))
    closing_gives is steps =
        let P : Files → Type 0 = λ x. (x.home ≡ laid_over home pages len) × Torn 0 1 opened x.log in
        leaves_told g.moment g.crash_left_since a b P _
        (leaves_from Log AtGate g counts_now a b P steps honest lasts (subst P (sym is) (refl, none_torn 0 1 opened)) (λ x y at n may p cut. (ap (λ (f : Files). f.home) cut.other ∙ p.0, at_gate opened x.log y.log at n may p.1 cut.torn)))
        (λ x p. whole_gives home opened pages len x (omega arith) covers is_open p.0 p.1)

-- how far a commit or a recovery has come: the device lasts, shows these files, and whatever was left since the start has P
pub record Stage {D : Type 0} (g : Ghosts D) (start : D) (P : Files → Type 0) (d : D) (files : Files) : Type 0 where
  pub honest : IsTrue (g.honest d)
  pub lasts : IsDurable g d
  pub shows : g.content d ≡ files
  pub so_far : CrashLeavesOnly g.moment g.crash_left_since start d P

module _ {D : Type 0} (g : Ghosts D) (start : D) (P : Files → Type 0) where
  pub stage_left : (d e : D) (files : Files) → Stage g start P d files → CrashLeavesOnly g.moment g.crash_left_since d e P → CrashLeavesOnly g.moment g.crash_left_since start e P
  stage_left d e files stage leaves = leaves_then g.moment g.crash_left_since start d e _ _ _ stage.so_far leaves (λ x p. p) (λ x p. p)

  pub stage_next : (d e : D) (files now : Files) → Stage g start P d files → CrashLeavesOnly g.moment g.crash_left_since d e P → g.honest e ≡ g.honest d → (IsDurable g d → IsDurable g e) → g.content e ≡ now → Stage g start P e now
  stage_next d e files now stage leaves honest lasts shows = record { honest = subst (λ (b : Bool). IsTrue b) (sym honest) stage.honest; lasts = lasts stage.lasts; shows = shows; so_far = stage_left d e files stage leaves }

-- ---- recoveries

pub alike_to : {D : Type 0} (g : Ghosts D) (start : D) → g.crash_may_leave start (g.content start) → (x : Files) → recovered x ≡ recovered (g.content start) → RecoversAlike (g.crash_may_leave start) x
alike_to g start shows x same = (g.content start, shows, same)

pub alike_rests : {D : Type 0} (g : Ghosts D) (start d : D) → CrashLeavesOnly g.moment g.crash_left_since start d (g.crash_may_leave start) → CrashLeavesOnly g.moment g.crash_left_since start d (RecoversAlike (g.crash_may_leave start))
alike_rests g start d leaves = leaves_told g.moment g.crash_left_since start d _ _ leaves (λ x left. (x, left, refl))
