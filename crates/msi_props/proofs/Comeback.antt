-- A written set is read as it was: its head, its section, and all of it.
use Rattle.std.proofs.Common.{◌≡◌, ℕ, ◌+◌, ◌*◌, ◌<◌, ◌^◌, Bool, false, true, List, [], ◌∷◌, ◌++◌, length, drop, map, Option, Some, None, Ok, refl, ap, ap₂, sym, subst, ◌∙◌, arith, append_assoc, append-nil, length-append}
use Rattle.std.specs.Prelude.{nat_lt, not, ◌||◌, if◌then◌else◌}
use Rattle.std.specs.List.{AllByRecursion, list_any}
use Rattle.std.proofs.Math.Seq.{drop-append_seam}
use Rattle.std.proofs.lemmas.Bool.Decides.{nat_tests}
use Rattle.std.proofs.lemmas.Str.{IsUtf8-from_is_utf8}
use Rattle.msi_texts.proofs.PageRoundTrip.{fitting_text_comes_back}
use Rattle.msi_texts.specs.Numbers.{le_bytes}
use Rattle.msi_texts.specs.Results.{◌>>=◌}
use Rattle.msi_texts.specs.declared.codepage.CodePage.{CodePage}
use Rattle.msi_props.specs.declared.system.OperatingSystem.{OperatingSystem}
use Rattle.msi_props.specs.declared.system.OperatingSystem.TheVariants.{Win16, Macintosh, Win32}
use Rattle.msi_props.specs.Kept.{IsKeptValue, SetIsWritable, TellsPage, WrittenSetsAreRead}
use Rattle.msi_props.specs.Props.{Head, Property, Props, head_at, head_bytes, is_i1, offsets_from, page_at, properties_at, props_bytes, props_read, read_under, section_at, system_number, system_of, under}
use Rattle.msi_props.specs.Props as property
use Rattle.msi_props.proofs.Fronts.{held, bytes_front, number_front}
use Rattle.msi_props.proofs.SetReading.{set_read}
use Rattle.msi_props.proofs.SetRoundTrip.{bodies, page_found, page_of_value, pairs_from, pairs_read, values_read}
use Rattle.msi_props.proofs.SetWriting.{length-offsets}

system_back : (o : OperatingSystem) → system_of (system_number o) ≡ Ok o
system_back Win16 = refl
system_back Macintosh = refl
system_back Win32 = refl

system_small : (o : OperatingSystem) → system_number o < 3
system_small Win16 = omega arith
system_small Macintosh = omega arith
system_small Win32 = omega arith

pub flat : (a b c d e f g h i : List ℕ) → a ++ b ++ c ++ d ++ e ++ f ++ g ++ h ++ i ≡ a ++ (b ++ (c ++ (d ++ (e ++ (f ++ (g ++ (h ++ i)))))))
flat a b c d e f g h i = simp append_assoc

-- a head is read
true_false : true ≡ false → ⊥
true_false h = cc

module _ (version system_version : ℕ) (system : OperatingSystem) (class format rest : List ℕ) (known : version < 2) (short : system_version < 2 ^ 16) (class_len : length class ≡ 16) (format_len : length format ≡ 16) where
  abbrev last : List ℕ
  last = le_bytes 4 48 ++ rest

  abbrev after_class : List ℕ
  after_class = le_bytes 4 1 ++ (format ++ last)

  abbrev after_version : List ℕ
  after_version = le_bytes 2 system_version ++ (le_bytes 2 (system_number system) ++ (class ++ after_class))

  pub head_read : head_at (le_bytes 2 0xFFFE ++ (le_bytes 2 version ++ after_version))
      ≡ Ok (record { version = version; system_version = system_version; system = system; class = class; sections = 1; format = format; offset = 48 })
  head_read =
      let few : nat_lt version 2 ≡ true = grind (arith, nat_tests, known) in
      let small = system_small system in
      rw (
        number_front 2 0xFFFE (le_bytes 2 version ++ after_version) (omega arith),
        number_front 2 version after_version (omega arith),
        few,
        number_front 2 system_version (le_bytes 2 (system_number system) ++ (class ++ after_class)) short,
        number_front 2 (system_number system) (class ++ after_class) (omega arith),
        system_back system,
        bytes_front 16 class after_class class_len,
        number_front 4 1 (format ++ last) (omega arith),
        bytes_front 16 format last format_len,
        number_front 4 48 rest (omega arith),
      )

-- the version of a set allows each of its values
pub all_allowed : (vs : List (ℕ × Property)) → AllByRecursion (λ v. (nat_lt 0 1 || not (is_i1 v.1)) ≡ true) vs
all_allowed [] = tt
all_allowed (v ∷ vs) = (refl, all_allowed vs)

pub none_first : (b rest : Bool) → (b || rest) ≡ false → (not b ≡ true) × (rest ≡ false)
none_first true rest none = absurd (true_false none)
none_first false rest none = (refl, none)

pub none_asks : (vs : List (ℕ × Property)) → list_any (λ v. is_i1 v.1) vs ≡ false → AllByRecursion (λ v. (nat_lt 0 0 || not (is_i1 v.1)) ≡ true) vs
none_asks [] none = tt
none_asks (v ∷ vs) none = let parts = none_first (is_i1 v.1) (list_any (λ v. is_i1 v.1) vs) none in (parts.0, none_asks vs parts.1)

pub allowed : (vs : List (ℕ × Property)) (b : Bool) → list_any (λ v. is_i1 v.1) vs ≡ b → AllByRecursion (λ v. (nat_lt 0 (if b then 1 else 0) || not (is_i1 v.1)) ≡ true) vs
allowed vs true any = all_allowed vs
allowed vs false none = none_asks vs none

few_versions : (b : Bool) → (if b then 1 else 0) < 2
few_versions true = omega arith
few_versions false = omega arith

-- a kept value reads under its page as it was
under_held : (p : CodePage) (v : Property) → IsKeptValue p v → under p (held p v) ≡ v
under_held p (property.text t) kept = ap property.text (fitting_text_comes_back p t (IsUtf8-from_is_utf8 t kept.0) kept.1)
under_held p _ kept = refl

all_under : (p : CodePage) (vs : List (ℕ × Property)) → AllByRecursion (λ v. IsKeptValue p v.1) vs → map (λ (v : ℕ × Property). (v.0, under p v.1)) (map (λ (v : ℕ × Property). (v.0, held p v.1)) vs) ≡ vs
all_under p [] kept = refl
all_under p (v ∷ vs) kept = ap₂ (λ (w : Property) (ws : List (ℕ × Property)). (v.0, w) ∷ ws) (under_held p v.1 kept.0) (all_under p vs kept.1)

pub page_back : (p : CodePage) (o : Option Property) → TellsPage p o → page_of_value o ≡ Ok p
page_back p None told = ap Ok (sym told)
page_back p (Some v) told = rw told

pub nothing : (vs : List (ℕ × Property)) → AllByRecursion (λ (v : ℕ × Property). AllByRecursion (λ (e : ℕ × ℕ). e.0 < v.0) []) vs
nothing [] = tt
nothing (v ∷ vs) = (tt, nothing vs)

pub grouped : (a b c d e : List ℕ) → a ++ b ++ c ++ d ++ e ≡ a ++ (b ++ (c ++ (d ++ e)))
grouped a b c d e = simp append_assoc

pub ends : (a b c d : List ℕ) → a ++ (b ++ (c ++ d)) ≡ (a ++ (b ++ c)) ++ (d ++ [])
ends a b c d = simp (append_assoc, append-nil)

pub eight_lens : (a b c d e f g h : List ℕ) → length (a ++ b ++ c ++ d ++ e ++ f ++ g ++ h) ≡ length a + length b + length c + length d + length e + length f + length g + length h
eight_lens a b c d e f g h = simp length-append

pub three_lens : (a b c : List ℕ) → length (a ++ (b ++ c)) ≡ length a + length b + length c
three_lens a b c = simp length-append (omega arith)

module _ (s : Props) (kept : SetIsWritable s) where
  abbrev vs : List (ℕ × Property)
  vs = s.values

  abbrev bods : List ℕ
  bods = bodies s.page vs

  abbrev start : ℕ
  start = 8 + 8 * length vs

  abbrev offs : List ℕ
  offs = offsets_from s.page start vs

  abbrev size : ℕ
  size = start + length bods

  abbrev section : List ℕ
  section = le_bytes 4 size ++ (le_bytes 4 (length vs) ++ (offs ++ bods))

  abbrev front : List ℕ
  front = le_bytes 4 size ++ (le_bytes 4 (length vs) ++ offs)

  abbrev version : ℕ
  version = if list_any (λ v. is_i1 v.1) vs then 1 else 0

  abbrev head : Head
  head = record { version = version; system_version = s.system_version; system = s.system; class = s.class; sections = 1; format = s.format; offset = 48 }

  behind_head : props_bytes s ≡ head_bytes s ++ section
  behind_head = grouped (head_bytes s) (le_bytes 4 size) (le_bytes 4 (length vs)) offs bods

  head_len : length (head_bytes s) ≡ 48
  head_len =
      let lens = eight_lens (le_bytes 2 0xFFFE) (le_bytes 2 version) (le_bytes 2 s.system_version) (le_bytes 2 (system_number s.system)) s.class (le_bytes 4 1) s.format (le_bytes 4 48) in
      omega (arith, lens, kept.class, kept.format)

  front_len : length front ≡ start
  front_len = let lens = three_lens (le_bytes 4 size) (le_bytes 4 (length vs)) offs in omega (arith, lens, length-offsets s.page start vs)

  fits : section ≡ front ++ (bods ++ [])
  fits = ends (le_bytes 4 size) (le_bytes 4 (length vs)) offs bods

  short : size < 2 ^ 32
  short =
      let limit : length (props_bytes s) < 4294967295 = grind (arith, nat_tests, kept.size) in
      let whole : length (props_bytes s) ≡ length (head_bytes s) + length section = ap length behind_head ∙ length-append (head_bytes s) section in
      let section_len : length section ≡ length front + length (bods ++ []) = ap length fits ∙ length-append front (bods ++ []) in
      let same : length (bods ++ []) ≡ length bods = ap length (append-nil bods) in
      omega (arith, limit, whole, section_len, same, head_len, front_len)

  begins : head_at (props_bytes s) ≡ Ok head
  begins =
      subst (λ b. head_at b ≡ Ok head)
      (sym (behind_head ∙ flat (le_bytes 2 0xFFFE) (le_bytes 2 version) (le_bytes 2 s.system_version) (le_bytes 2 (system_number s.system)) s.class (le_bytes 4 1) s.format (le_bytes 4 48) section))
      (head_read version s.system_version s.system s.class s.format section (few_versions (list_any (λ v. is_i1 v.1) vs)) kept.version kept.class kept.format)

  there : section ≡ drop 48 (props_bytes s)
  there = sym (ap (drop 48) behind_head ∙ subst (λ n. drop n (head_bytes s ++ section) ≡ section) head_len (drop-append_seam (head_bytes s) section))

  first : section_at section ≡ Ok (pairs_from s.page start vs)
  first =
      rw (number_front 4 size (le_bytes 4 (length vs) ++ (offs ++ bods)) short, number_front 4 (length vs) (offs ++ bods) (omega (arith, short)))
      (pairs_read s.page start vs [] bods kept.rising kept.numbers short (nothing vs))

  told : page_at section (pairs_from s.page start vs) ≡ Ok s.page
  told = page_found s.page start vs front [] section fits front_len kept.values short ∙ page_back s.page _ kept.page

  stand : properties_at version section (pairs_from s.page start vs) ≡ Ok (map (λ (v : ℕ × Property). (v.0, held s.page v.1)) vs)
  stand = values_read s.page version start vs front [] section fits front_len kept.values (allowed vs (list_any (λ v. is_i1 v.1) vs) refl) short

  read_again : props_read (props_bytes s) ≡ Ok (record s { sections = 1 })
  read_again =
      ap (λ r. r >>= λ t. Ok (read_under t)) (set_read (props_bytes s) section head (pairs_from s.page start vs) s.page (map (λ (v : ℕ × Property). (v.0, held s.page v.1)) vs) begins there first told stand)
      ∙ ap (λ (ws : List (ℕ × Property)). Ok (record s { sections = 1; values = ws })) (all_under s.page vs kept.values)

pub written_set_is_read : WrittenSetsAreRead
written_set_is_read s kept = read_again s kept
