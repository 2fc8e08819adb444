-- The texts of a summary that was written give back their bytes.
use Rattle.std.proofs.Common.{◌≡◌, ℕ, ◌+◌, ◌*◌, ◌<◌, ◌^◌, Bool, false, true, List, [], ◌∷◌, ◌++◌, length, drop, map, Ok, refl, ap, sym, subst, ◌∙◌, arith, append-nil, length-append}
use Rattle.std.specs.Prelude.{◌||◌, ◌&&◌, if◌then◌else◌, bytes_eq}
use Rattle.std.specs.List.{AllByRecursion, list_all, list_any}
use Rattle.std.proofs.Math.Seq.{drop-append_seam}
use Rattle.std.proofs.lemmas.Bool.Decides.{nat_tests}
use Rattle.std.proofs.lemmas.Str.{IsUtf8-from_is_utf8}
use Rattle.msi_texts.proofs.PageRoundTrip.{fitting_text_comes_back}
use Rattle.msi_texts.specs.Numbers.{le_bytes}
use Rattle.msi_texts.specs.Page.{encoded}
use Rattle.msi_texts.specs.declared.codepage.CodePage.{CodePage}
use Rattle.msi_spec.proofs.SystemRows.{bytes_same}
use Rattle.msi_props.specs.Kept.{IsKeptValue, SetIsWritable}
use Rattle.msi_props.specs.Props.{Head, Property, Props, all_give_back, property_round_trips, head_at, head_bytes, is_i1, offsets_from, page_at, properties_at, props_bytes, section_at, system_number, texts_give_back}
use Rattle.msi_props.specs.Props as property
use Rattle.msi_props.proofs.Comeback.{allowed, eight_lens, ends, flat, grouped, head_read, nothing, page_back, three_lens}
use Rattle.msi_props.proofs.Fronts.{held, number_front}
use Rattle.msi_props.proofs.SetReading.{set_read}
use Rattle.msi_props.proofs.SetRoundTrip.{bodies, page_found, pairs_from, pairs_read, values_read}
use Rattle.msi_props.proofs.SetWriting.{length-offsets}

true_false : true ≡ false → ⊥
true_false h = cc

few_versions : (b : Bool) → (if b then 1 else 0) < 2
few_versions true = omega arith
few_versions false = omega arith

-- the bytes of a kept value give back what they are
held_gives : (p : CodePage) (v : Property) → IsKeptValue p v → property_round_trips p (held p v) ≡ true
held_gives p (property.text t) kept =
    ap (λ x. bytes_eq (encoded p x) (encoded p t)) (fitting_text_comes_back p t (IsUtf8-from_is_utf8 t kept.0) kept.1) ∙ bytes_same (encoded p t)
held_gives p _ kept = refl

all_give : (p : CodePage) (vs : List (ℕ × Property)) → AllByRecursion (λ v. IsKeptValue p v.1) vs → list_all (λ (v : ℕ × Property). property_round_trips p v.1) (map (λ (v : ℕ × Property). (v.0, held p v.1)) vs) ≡ true
all_give p [] kept = refl
all_give p (v ∷ vs) kept = ap (λ b. b && list_all (λ (v : ℕ × Property). property_round_trips p v.1) (map (λ (v : ℕ × Property). (v.0, held p v.1)) vs)) (held_gives p v.1 kept.0) ∙ all_give p vs kept.1

module _ (s : Props) (kept : SetIsWritable s) where
  abbrev vs : List (ℕ × Property)
  vs = s.values

  abbrev bods : List ℕ
  bods = bodies s.page vs

  abbrev start : ℕ
  start = 8 + 8 * length vs

  abbrev offs : List ℕ
  offs = offsets_from s.page start vs

  abbrev size : ℕ
  size = start + length bods

  abbrev section : List ℕ
  section = le_bytes 4 size ++ (le_bytes 4 (length vs) ++ (offs ++ bods))

  abbrev front : List ℕ
  front = le_bytes 4 size ++ (le_bytes 4 (length vs) ++ offs)

  abbrev version : ℕ
  version = if list_any (λ v. is_i1 v.1) vs then 1 else 0

  abbrev head : Head
  head = record { version = version; system_version = s.system_version; system = s.system; class = s.class; sections = 1; format = s.format; offset = 48 }

  behind_head : props_bytes s ≡ head_bytes s ++ section
  behind_head = grouped (head_bytes s) (le_bytes 4 size) (le_bytes 4 (length vs)) offs bods

  head_len : length (head_bytes s) ≡ 48
  head_len =
      let lens = eight_lens (le_bytes 2 0xFFFE) (le_bytes 2 version) (le_bytes 2 s.system_version) (le_bytes 2 (system_number s.system)) s.class (le_bytes 4 1) s.format (le_bytes 4 48) in
      omega (arith, lens, kept.class, kept.format)

  front_len : length front ≡ start
  front_len = let lens = three_lens (le_bytes 4 size) (le_bytes 4 (length vs)) offs in omega (arith, lens, length-offsets s.page start vs)

  fits : section ≡ front ++ (bods ++ [])
  fits = ends (le_bytes 4 size) (le_bytes 4 (length vs)) offs bods

  short : size < 2 ^ 32
  short =
      let limit : length (props_bytes s) < 4294967295 = grind (arith, nat_tests, kept.size) in
      let whole : length (props_bytes s) ≡ length (head_bytes s) + length section = ap length behind_head ∙ length-append (head_bytes s) section in
      let section_len : length section ≡ length front + length (bods ++ []) = ap length fits ∙ length-append front (bods ++ []) in
      let same : length (bods ++ []) ≡ length bods = ap length (append-nil bods) in
      omega (arith, limit, whole, section_len, same, head_len, front_len)

  begins : head_at (props_bytes s) ≡ Ok head
  begins =
      subst (λ b. head_at b ≡ Ok head)
      (sym (behind_head ∙ flat (le_bytes 2 0xFFFE) (le_bytes 2 version) (le_bytes 2 s.system_version) (le_bytes 2 (system_number s.system)) s.class (le_bytes 4 1) s.format (le_bytes 4 48) section))
      (head_read version s.system_version s.system s.class s.format section (few_versions (list_any (λ v. is_i1 v.1) vs)) kept.version kept.class kept.format)

  there : section ≡ drop 48 (props_bytes s)
  there = sym (ap (drop 48) behind_head ∙ subst (λ n. drop n (head_bytes s ++ section) ≡ section) head_len (drop-append_seam (head_bytes s) section))

  first : section_at section ≡ Ok (pairs_from s.page start vs)
  first =
      rw (number_front 4 size (le_bytes 4 (length vs) ++ (offs ++ bods)) short, number_front 4 (length vs) (offs ++ bods) (omega (arith, short)))
      (pairs_read s.page start vs [] bods kept.rising kept.numbers short (nothing vs))

  told : page_at section (pairs_from s.page start vs) ≡ Ok s.page
  told = page_found s.page start vs front [] section fits front_len kept.values short ∙ page_back s.page _ kept.page

  stand : properties_at version section (pairs_from s.page start vs) ≡ Ok (map (λ (v : ℕ × Property). (v.0, held s.page v.1)) vs)
  stand = values_read s.page version start vs front [] section fits front_len kept.values (allowed vs (list_any (λ v. is_i1 v.1) vs) refl) short

  gives : texts_give_back (props_bytes s) ≡ true
  gives =
      ap all_give_back (set_read (props_bytes s) section head (pairs_from s.page start vs) s.page (map (λ (v : ℕ × Property). (v.0, held s.page v.1)) vs) begins there first told stand)
      ∙ all_give s.page vs kept.values

pub written_summary_gives_back : (s : Props) → SetIsWritable s → texts_give_back (props_bytes s) ≡ true
written_summary_gives_back s kept = gives s kept
