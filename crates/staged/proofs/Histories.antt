-- What a stop may leave of a device in memory, call by call.
use Rattle.std.proofs.Common.{Some, inl, inr, ◌⊎◌, ◌≡◌, ℕ, ◌+◌, ◌<◌, ◌≤◌, max, List, [], ◌∷◌, ◌++◌, length, get_or, refl, sym, ◌∙◌, ap, subst, arith, length-append}
use Rattle.std.proofs.lemmas.Bool.{cases_lt}
use Rattle.std.proofs.lemmas.List.{same_lists, take_all, take-append-le, get_or_default}
use Rattle.std.proofs.lemmas.List.Elements.{All-nil, All-pop}
use Rattle.cfb_medium.specs.Bytes.{overwritten}
use Rattle.staged.specs.Files.{Files, file_of, with_file}
use Rattle.staged.specs.Device.{Torn}
use Rattle.staged.specs.Crashes.{IsTornWriteOf, CrashKeepsFile}
use Rattle.staged.specs.Standing.{Standing, Made, wrote, synced, standing, after_write, after_call, after_calls, MayStand, MayBeLeft, MightBeLeft, IsStanding}
use Rattle.staged.specs.declared.device.Which.{Which}
use Rattle.staged.specs.declared.device.Which.TheVariants.{Home, Log}
use Rattle.staged.proofs.Staging.{before, after, long}
use Rattle.staged.proofs.Stands.{torn_before}

-- ---- one file

long_written : (old bytes : List ℕ) (at : ℕ) → at ≤ length old → length (overwritten old at bytes) ≡ max (length old) (at + length bytes)
long_written old [] at fits = omega arith
long_written old (b ∷ bs) at fits = long old (b ∷ bs) at

apart_written : (old bytes : List ℕ) (at i : ℕ) → at ≤ length old → i < length old → (i < at) ⊎ (at + length bytes ≤ i) → get_or (overwritten old at bytes) i 0 ≡ get_or old i 0
apart_written old [] at i fits within outside = refl
apart_written old (b ∷ bs) at i fits within (inl early) = before old (b ∷ bs) at i early within
apart_written old (b ∷ bs) at i fits within (inr late) = after old (b ∷ bs) at i late within

pub standing_synced : (s : Standing) (bytes : List ℕ) → IsStanding s bytes → IsStanding (standing s.shown) bytes
standing_synced s bytes is = record {
  shown = is.shown;
  stands = record { no_shorter = omega (arith, ap length is.shown); no_longer = omega (arith, ap length is.shown); apart = λ i within outside. ap (λ (l : List ℕ). get_or l i 0) (sym is.shown) };
}

pub standing_written : (s : Standing) (old bytes : List ℕ) (at : ℕ) → at ≤ length old → IsStanding s old → IsStanding (after_write s at bytes) (overwritten old at bytes)
standing_written s old bytes at fits is =
    let same : overwritten s.shown at bytes ≡ overwritten old at bytes = ap (λ (l : List ℕ). overwritten l at bytes) is.shown in
    let size = long_written old bytes at fits in
    record {
      shown = same;
      stands = record {
        no_shorter = omega (arith, size, is.stands.no_shorter);
        no_longer = omega (arith, ap length same);
        apart = λ i within outside.
            let here : i < length old = omega (arith, within, is.stands.no_shorter) in
            let both = All-pop (λ r. (i < r.0) ⊎ (r.0 + r.1 ≤ i)) (s.ranges ++ (at, length bytes) ∷ []) s.ranges (Some (at, length bytes)) refl outside in
            apart_written old bytes at i fits here both.1 ∙ is.stands.apart i within both.0;
      };
    }

-- what is left of a file that was just synced
pub kept_synced : (s : Standing) (bytes left : List ℕ) → IsStanding s bytes → MayStand (standing s.shown) left → left ≡ bytes
kept_synced s bytes left is stands =
    same_lists left s.shown (omega (arith, stands.no_shorter, stands.no_longer)) (λ i d below.
    let within : i < length s.shown = omega (arith, below, stands.no_longer) in
    get_or_default left i d 0 below ∙ stands.apart i within (All-nil {X = ℕ × ℕ} (λ r. (i < r.0) ⊎ (r.0 + r.1 ≤ i))) ∙ get_or_default s.shown i 0 d within)
    ∙ is.shown

-- what is left of a file to which no call was made
pub kept_first : (which : Which) (first : List ℕ) (calls : List Made) (left : List ℕ) → calls ≡ [] → MayStand (after_calls which (standing first) calls) left → left ≡ first
kept_first which first calls left none stands =
    kept_synced (standing first) first left (record { shown = refl; stands = record { no_shorter = omega arith; no_longer = omega arith; apart = λ i within outside. refl } })
    (subst (λ (cs : List Made). MayStand (after_calls which (standing first) cs) left) none stands)

-- ---- the two files

abbrev pub AreStanding : Files → List Made → Files → Type 0
AreStanding first calls files = IsStanding (after_calls Home (standing first.home) calls) files.home × IsStanding (after_calls Log (standing first.log) calls) files.log

pub after_more : (which : Which) (s : Standing) (calls : List Made) (c : Made) → after_calls which s (calls ++ c ∷ []) ≡ after_call which (after_calls which s calls) c
after_more which s [] c = refl
after_more which s (call ∷ calls) c = after_more which (after_call which s call) calls c

-- a file after one more call
pub more_calls : (which : Which) (first was : List ℕ) (calls before : List Made) (c : Made) (old now : Standing) → first ≡ was → calls ≡ before ++ c ∷ [] → after_calls which (standing was) before ≡ old → now ≡ after_call which old c → after_calls which (standing first) calls ≡ now
more_calls which first was calls before c old now same pushed is stands =
    ap (λ (b : List ℕ). after_calls which (standing b) calls) same ∙ ap (λ (cs : List Made). after_calls which (standing was) cs) pushed ∙ after_more which (standing was) before c ∙ ap (λ (s : Standing). after_call which s c) is ∙ sym stands

pub are_written : (which : Which) (first : Files) (calls : List Made) (files : Files) (at : ℕ) (bytes : List ℕ) → at ≤ length (file_of files which) → AreStanding first calls files
    → AreStanding first (calls ++ wrote which at bytes ∷ []) (with_file files which (overwritten (file_of files which) at bytes))
are_written Home first calls files at bytes fits are = (
  subst (λ (s : Standing). IsStanding s (overwritten files.home at bytes)) (sym (after_more Home (standing first.home) calls (wrote Home at bytes))) (standing_written _ files.home bytes at fits are.0),
  subst (λ (s : Standing). IsStanding s files.log) (sym (after_more Log (standing first.log) calls (wrote Home at bytes))) are.1,
)
are_written Log first calls files at bytes fits are = (
  subst (λ (s : Standing). IsStanding s files.home) (sym (after_more Home (standing first.home) calls (wrote Log at bytes))) are.0,
  subst (λ (s : Standing). IsStanding s (overwritten files.log at bytes)) (sym (after_more Log (standing first.log) calls (wrote Log at bytes))) (standing_written _ files.log bytes at fits are.1),
)

pub are_synced : (which : Which) (first : Files) (calls : List Made) (files : Files) → AreStanding first calls files → AreStanding first (calls ++ synced which ∷ []) files
are_synced Home first calls files are = (
  subst (λ (s : Standing). IsStanding s files.home) (sym (after_more Home (standing first.home) calls (synced Home))) (standing_synced _ files.home are.0),
  subst (λ (s : Standing). IsStanding s files.log) (sym (after_more Log (standing first.log) calls (synced Home))) are.1,
)
are_synced Log first calls files are = (
  subst (λ (s : Standing). IsStanding s files.home) (sym (after_more Home (standing first.home) calls (synced Log))) are.0,
  subst (λ (s : Standing). IsStanding s files.log) (sym (after_more Log (standing first.log) calls (synced Log))) (standing_synced _ files.log are.1),
)

-- one file that is left after a call to the other
other_left : (which : Which) (s : Standing) (calls : List Made) (c : Made) (left : List ℕ) → after_call which (after_calls which s calls) c ≡ after_calls which s calls → MayStand (after_calls which s (calls ++ c ∷ [])) left → MayStand (after_calls which s calls) left
other_left which s calls c left same stands = subst (λ (t : Standing). MayStand t left) (after_more which s calls c ∙ same) stands

file_written : (which : Which) (s : Standing) (calls : List Made) (c : Made) (file : List ℕ) (at : ℕ) (bytes left : List ℕ) → after_call which (after_calls which s calls) c ≡ after_write (after_calls which s calls) at bytes
    → at ≤ length file → IsStanding (after_calls which s calls) file → MayStand (after_calls which s (calls ++ c ∷ [])) left → (old : List ℕ) × MayStand (after_calls which s calls) old × Torn at (length bytes) old left
file_written which s calls c file at bytes left same fits is stands =
    let now = after_calls which s calls in
    let size : length now.shown ≡ length file = ap length is.shown in
    let fits_now : at ≤ length now.shown = omega (arith, fits, size) in
    torn_before now at (length bytes) (overwritten now.shown at bytes) left fits_now (omega (arith, size, is.stands.no_shorter)) (long_written now.shown bytes at fits_now)
    (subst (λ (t : Standing). MayStand t left) (after_more which s calls c ∙ same) stands)

pub left_written : (which : Which) (first : Files) (calls : List Made) (files : Files) (at : ℕ) (bytes : List ℕ) (left : Files) → at ≤ length (file_of files which) → AreStanding first calls files
    → MayBeLeft first (calls ++ wrote which at bytes ∷ []) left → IsTornWriteOf which at (length bytes) (MayBeLeft first calls) left
left_written Home first calls files at bytes left fits are may =
    let one = file_written Home (standing first.home) calls (wrote Home at bytes) files.home at bytes left.home refl fits are.0 may.home in
    (record { home = one.0; log = left.log }, record { home = one.1; log = other_left Log (standing first.log) calls (wrote Home at bytes) left.log refl may.log }, record { torn = one.2; other = refl })
left_written Log first calls files at bytes left fits are may =
    let one = file_written Log (standing first.log) calls (wrote Log at bytes) files.log at bytes left.log refl fits are.1 may.log in
    (record { home = left.home; log = one.0 }, record { home = other_left Home (standing first.home) calls (wrote Log at bytes) left.home refl may.home; log = one.1 }, record { torn = one.2; other = refl })

file_synced : (which : Which) (s : Standing) (calls : List Made) (c : Made) (file left : List ℕ) → after_call which (after_calls which s calls) c ≡ standing (after_calls which s calls).shown
    → IsStanding (after_calls which s calls) file → MayStand (after_calls which s (calls ++ c ∷ [])) left → left ≡ file
file_synced which s calls c file left same is stands = kept_synced (after_calls which s calls) file left is (subst (λ (t : Standing). MayStand t left) (after_more which s calls c ∙ same) stands)

pub kept_by_sync : (which : Which) (first : Files) (calls : List Made) (files : Files) → AreStanding first calls files → CrashKeepsFile which files (MayBeLeft first (calls ++ synced which ∷ []))
kept_by_sync Home first calls files are left may = file_synced Home (standing first.home) calls (synced Home) files.home left.home refl are.0 may.home
kept_by_sync Log first calls files are left may = file_synced Log (standing first.log) calls (synced Log) files.log left.log refl are.1 may.log

pub left_synced : (which : Which) (first : Files) (calls : List Made) (files left : Files) → AreStanding first calls files → MayBeLeft first (calls ++ synced which ∷ []) left → MayBeLeft first calls left
left_synced Home first calls files left are may = record {
  home = subst (λ (bytes : List ℕ). MayStand (after_calls Home (standing first.home) calls) bytes) (sym (kept_by_sync Home first calls files are left may)) are.0.stands;
  log = other_left Log (standing first.log) calls (synced Home) left.log refl may.log;
}
left_synced Log first calls files left are may = record {
  home = other_left Home (standing first.home) calls (synced Log) left.home refl may.home;
  log = subst (λ (bytes : List ℕ). MayStand (after_calls Log (standing first.log) calls) bytes) (sym (kept_by_sync Log first calls files are left may)) are.1.stands;
}

-- ---- moments

pub might_now : (first : Files) (calls : List Made) (left : Files) → MightBeLeft first calls (length calls) left → MayBeLeft first calls left
might_now first calls left since = subst (λ (cs : List Made). MayBeLeft first cs left) (take_all since.0 calls since.1) since.3

pub might_keep : (first : Files) (calls : List Made) (c : Made) (t : ℕ) (left : Files) → MightBeLeft first calls t left → MightBeLeft first (calls ++ c ∷ []) t left
might_keep first calls c t left since =
    (since.0, since.1, omega (arith, since.2, length-append calls (c ∷ [])), subst (λ (cs : List Made). MayBeLeft first cs left) (sym (take-append-le since.0 calls (c ∷ []) since.2)) since.3)

pub might_push : (first : Files) (calls : List Made) (c : Made) (t : ℕ) (left : Files) → MightBeLeft first (calls ++ c ∷ []) t left → MightBeLeft first calls t left ⊎ MayBeLeft first (calls ++ c ∷ []) left
might_push first calls c t left since = elim (cases_lt (length calls) since.0) [
  | inl last ↦ inr (subst (λ (cs : List Made). MayBeLeft first cs left) (take_all since.0 (calls ++ c ∷ []) (omega (arith, last, length-append calls (c ∷ [])))) since.3)
  | inr early ↦ inl (since.0, since.1, early, subst (λ (cs : List Made). MayBeLeft first cs left) (take-append-le since.0 calls (c ∷ []) early) since.3)
]

-- a write of which nothing was cut is cut too
pub uncut : (which : Which) (at n : ℕ) (outcomes : Files → Type 0) (left : Files) → outcomes left → IsTornWriteOf which at n outcomes left
uncut Home at n outcomes left may = (left, may, record { torn = record { before = refl; after = refl; no_shorter = omega arith; no_longer = omega arith }; other = refl })
uncut Log at n outcomes left may = (left, may, record { torn = record { before = refl; after = refl; no_shorter = omega arith; no_longer = omega arith }; other = refl })

pub are_moved : (first old : Files) (calls before : List Made) (files was : Files) → first ≡ old → calls ≡ before → files ≡ was → AreStanding old before was → AreStanding first calls files
are_moved first old calls before files was same_first same_calls same_files are =
    subst (λ (f : Files). AreStanding f calls files) (sym same_first) (subst (λ (cs : List Made). AreStanding old cs files) (sym same_calls) (subst (λ (f : Files). AreStanding old before f) (sym same_files) are))
