-- Which entries have what they use, by what is told of the tables.
use Rattle.std.proofs.Common.{◌≡◌, ◌∙◌, ℕ, zero, suc, ◌+◌, ◌*◌, ◌<◌, ◌≤◌, true, false, List, [], ◌∷◌, ◌++◌, length, take, inl, inr, refl, sym, ap, subst, length-take, arith}
use Rattle.std.specs.Prelude.{Some, ◌↔◌, slice_get}
use Rattle.std.proofs.lemmas.Bool.Decides.{nat_tests}
use Rattle.std.proofs.lemmas.Option.{slice_get_within}
use Rattle.cfb_medium.specs.Versions.{sector_len}
use Rattle.cfb_sectors.specs.Header.{mini_cutoff}
use Rattle.cfb_sectors.specs.Sectors.{sector_start, Chain}
use Rattle.cfb_tree.specs.Directory.{kind_stream, Entry}
use Rattle.cfb_tree.proofs.OneContent.{Some_same}
use Rattle.cfb_mini.specs.Minis.{AreInside}
use Rattle.cfb_soundness.specs.Uses.{HasMiniSectors, HasSectors, SectorTables}
use Rattle.cfb_findings.specs.Avail.{mini_start}
use Rattle.cfb_findings.specs.Broken.{AreBroken, HasAllItUses}
use Rattle.cfb_findings.specs.Findings.{is_long, is_short}
use Rattle.cfb_findings.specs.Minis.{minis_there}
use Rattle.cfb_findings.specs.Noted.{IsNoted}
use Rattle.cfb_findings.specs.Rooms.{IsHeld}
use Rattle.cfb_fat.proofs.CutChains.{chain_of_cut}

long_kind : (e : Entry) → true ≡ is_long e → (e.kind ≡ kind_stream) × (mini_cutoff ≤ e.size)
long_kind e is = (grind (arith, nat_tests), grind (arith, nat_tests))

short_kind : (e : Entry) → true ≡ is_short e → (e.kind ≡ kind_stream) × (e.size < mini_cutoff)
short_kind e is = (grind (arith, nat_tests), grind (arith, nat_tests))

module _ (t : SectorTables) (id : ℕ) (e : Entry) (found : slice_get t.entries id ≡ Some e) where
  pub long_whole : true ≡ is_long e → IsHeld t.fat (sector_len t.version) (sector_start t.version) t.file_len e.start e.size ↔ HasAllItUses t id
  long_whole is =
      let kind = long_kind e is in (
        (λ held. (
          held.0,
          [],
          record {
            entry = e;
            found = found;
            short = λ _ below. absurd (omega (arith, below, kind.1));
            long = λ _ _. (refl, record { chain = held.1; held = held.2 });
            other = λ other. absurd (other kind.0);
          },
        )),
        (λ whole.
            let h = whole.2 in
            let same : h.entry ≡ e = Some_same (sym h.found ∙ found) in
            let has = (subst (λ (x : Entry). x.kind ≡ kind_stream → mini_cutoff ≤ x.size → (whole.1 ≡ []) × HasSectors t x whole.0) same h.long) kind.0 kind.1 in
            let sectors : HasSectors t e whole.0 = has.1 in
            (whole.0, sectors.chain, sectors.held)),
      )

  pub other_whole : (e.kind ≡ kind_stream → ⊥) → HasAllItUses t id
  other_whole unlike = (
    [],
    [],
    record {
      entry = e;
      found = found;
      short = λ is _. absurd (unlike is);
      long = λ is _. absurd (unlike is);
      other = λ _. (refl, refl);
    },
  )

get_in_take : (k : ℕ) (table : List ℕ) (i x : ℕ) → i < k → slice_get table i ≡ Some x → slice_get (take k table) i ≡ Some x
get_in_take zero table i x below found = absurd (omega (arith, below))
get_in_take (suc k) [] i x below found = found
get_in_take (suc k) (y ∷ table) zero x below found = found
get_in_take (suc k) (y ∷ table) (suc i) x below found = get_in_take k table i x (omega (arith, below)) found

-- a chain in the mini FAT as far as the mini stream goes lies in the mini stream, and back
chain_inside : (mini_fat : List ℕ) (len start : ℕ) (ids : List ℕ) → Chain (take (minis_there mini_fat len) mini_fat) start ids → AreInside len ids
chain_inside mini_fat len start [] chain k below = absurd (omega (arith, below))
chain_inside mini_fat len start (x ∷ ids) (is, regular, next, found, rest) zero below =
    let within = slice_get_within (take (minis_there mini_fat len) mini_fat) start next found in
    omega (arith, is, within, length-take (minis_there mini_fat len) mini_fat)
chain_inside mini_fat len start (x ∷ ids) (is, regular, next, found, rest) (suc k) below = chain_inside mini_fat len next ids rest k (omega (arith, below))

inside_chain : (mini_fat : List ℕ) (len start : ℕ) (ids : List ℕ) → Chain mini_fat start ids → AreInside len ids → Chain (take (minis_there mini_fat len) mini_fat) start ids
inside_chain mini_fat len start [] is inside = is
inside_chain mini_fat len start (x ∷ ids) (is, regular, next, found, rest) inside =
    let within = slice_get_within mini_fat start next found in
    let there : 64 * x + 64 ≤ len = inside 0 (omega arith) in (
      is,
      regular,
      next,
      get_in_take (minis_there mini_fat len) mini_fat start next (omega (arith, is, within, there, regular)) found,
      inside_chain mini_fat len next ids rest (λ k below. inside (suc k) (omega (arith, below))),
    )

module _ (t : SectorTables) (id : ℕ) (e : Entry) (found : slice_get t.entries id ≡ Some e) where
  pub short_whole : true ≡ is_short e
      → IsHeld (take (minis_there t.mini_fat t.mini_len) t.mini_fat) 64 (mini_start t.version t.mini_stream) t.file_len e.start e.size ↔ HasAllItUses t id
  short_whole is =
      let kind = short_kind e is in (
        (λ held. (
          [],
          held.0,
          record {
            entry = e;
            found = found;
            short = λ _ _. (
              refl,
              record {
                chain = chain_of_cut (minis_there t.mini_fat t.mini_len) t.mini_fat e.start held.0 held.1;
                inside = chain_inside t.mini_fat t.mini_len e.start held.0 held.1;
                held = held.2;
              },
            );
            long = λ _ up. absurd (omega (arith, up, kind.1));
            other = λ other. absurd (other kind.0);
          },
        )),
        (λ whole.
            let h = whole.2 in
            let same : h.entry ≡ e = Some_same (sym h.found ∙ found) in
            let has = (subst (λ (x : Entry). x.kind ≡ kind_stream → x.size < mini_cutoff → (whole.0 ≡ []) × HasMiniSectors t x whole.1) same h.short) kind.0 kind.1 in
            let minis : HasMiniSectors t e whole.1 = has.1 in
            (whole.1, inside_chain t.mini_fat t.mini_len e.start whole.1 minis.chain minis.inside, minis.held)),
      )

pub whole_there : (t : SectorTables) (id : ℕ) → HasAllItUses t id → id < length t.entries
whole_there t id whole = let h = whole.2 in slice_get_within t.entries id h.entry h.found

pub neither_stream : (e : Entry) → false ≡ is_long e → false ≡ is_short e → e.kind ≡ kind_stream → ⊥
neither_stream e long short is = grind (arith, nat_tests)

-- what is found one entry on
pub broken_more : (t : SectorTables) (xs : List ℕ) (id : ℕ) (old new : List ℕ) → AreBroken t xs old → IsNoted (HasAllItUses t id) id old new → AreBroken t (xs ++ (id ∷ [])) new
broken_more t [] id old new none (inl (whole, same)) = inl (whole, same ∙ none)
broken_more t [] id old new none (inr (broken, more)) = inr (broken, [], more ∙ ap (λ l. l ++ (id ∷ [])) none, refl)
broken_more t (x ∷ xs) id old new (inl (whole, rest)) noted = inl (whole, broken_more t xs id old new rest noted)
broken_more t (x ∷ xs) id old new (inr (broken, rest, is, later)) (inl (whole, same)) =
    inr (broken, rest, same ∙ is, broken_more t xs id rest rest later (inl (whole, refl)))
broken_more t (x ∷ xs) id old new (inr (broken, rest, is, later)) (inr (other, more)) =
    inr (broken, rest ++ (id ∷ []), more ∙ ap (λ l. l ++ (id ∷ [])) is, broken_more t xs id rest (rest ++ (id ∷ [])) later (inr (other, refl)))
