-- A header is read in one way.
use Rattle.std.proofs.Common.{arith, ◌≡◌, ◌<◌, ◌≤◌, ◌⊎◌, ℕ, List, [], length, inr, refl, sym, ◌∙◌, subst, ⊎_elim}
use Rattle.std.proofs.lemmas.List.{append-nil}
use Rattle.std.specs.Prelude.{Result, Ok, Err, IfOk, IfErr, IsOk, OnOk, ◌↔◌}
use Rattle.cfb_medium.specs.declared.error.Error.{Error}
use Rattle.cfb_medium.specs.declared.error.Error.TheVariants.{InvalidData, Memory, UnexpectedEof}
use Rattle.cfb_medium.specs.declared.version.Version.{Version}
use Rattle.cfb_medium.specs.declared.version.Version.TheVariants.{V3, V4}
use Rattle.cfb_medium.specs.Versions.{major}
use Rattle.cfb_sectors.specs.Header.{HeaderFields, directory_sector_count, header_bytes, FitsHeader, HasFields}
use Rattle.cfb_sectors.specs.HeaderViews.{fields_of}
use Rattle.cfb_sectors.specs.Readable.{IsReadable, IsTaken}
use Rattle.cfb_sectors.specs.declared.header.Header.{Header}
use Rattle.cfb_sectors.specs.declared.validation.Validation.{Validation}
use Rattle.cfb_sectors.proofs.HeaderLemmas.{header_read}

major_same : (v w : Version) → major v ≡ major w → v ≡ w
major_same V3 V3 e = cc
major_same V3 V4 e = absurd (omega arith)
major_same V4 V3 e = absurd (omega arith)
major_same V4 V4 e = cc

pub fields_same : (h k : HeaderFields) (bytes : List ℕ) → HasFields h bytes → HasFields k bytes → h ≡ k
fields_same h k bytes a b =
    let version : h.version ≡ k.version = major_same h.version k.version (sym a.header.for_version ∙ b.header.for_version) in
    λ i. record {
      version = version i;
      directory_count = (sym a.directory_count ∙ b.directory_count) i;
      fat_count = (sym a.fat_count ∙ b.fat_count) i;
      first_directory = (sym a.directory ∙ b.directory) i;
      first_mini_fat = (sym a.mini_fat ∙ b.mini_fat) i;
      mini_fat_count = (sym a.mini_fat_count ∙ b.mini_fat_count) i;
      first_difat = (sym a.difat_start ∙ b.difat_start) i;
      difat_count = (sym a.difat_count ∙ b.difat_count) i;
      difat = (sym a.difat ∙ b.difat) i;
    }

-- what was written is read, and nothing else
pub again : (h : HeaderFields) (bytes : List ℕ) → FitsHeader h → bytes ≡ header_bytes h → HasFields h bytes
again h bytes fits is = subst (HasFields h) (append-nil (header_bytes h) ∙ sym is) (header_read h [] fits)

pub if_again : (h : HeaderFields) (bytes : List ℕ) (r : Result Header Error) → HasFields h bytes → IfOk r (λ x. HasFields (fields_of x) bytes) → IfOk r (λ x. fields_of x ≡ h)
if_again h bytes (Ok x) written read = fields_same (fields_of x) h bytes read written
if_again h bytes (Err e) written read = read

pub if_taken : (h : HeaderFields) (bytes : List ℕ) (validation : Validation) (r : Result Header Error) → HasFields h bytes → IsOk r ↔ ((v : Version) × IsReadable validation v bytes)
    → OnOk r (IsTaken validation h.version h.directory_count)
if_taken h bytes validation (Ok x) written whole =
    let found = whole.0 refl in
    let same : found.0 ≡ h.version = major_same found.0 h.version (sym found.1.0.for_version ∙ written.header.for_version) in
    subst (λ count. IsTaken validation h.version count) written.directory_count (subst (λ v. IsTaken validation v (directory_sector_count bytes)) same found.1.1)
if_taken h bytes validation (Err e) written whole = tt

pub if_refused : (h : HeaderFields) (bytes : List ℕ) (validation : Validation) (r : Result Header Error) → HasFields h bytes → IsOk r ↔ ((v : Version) × IsReadable validation v bytes)
    → IfErr r (λ e. ((e ≡ UnexpectedEof) × (length bytes < 512)) ⊎ ((e ≡ InvalidData) × (512 ≤ length bytes)))
    → IfErr r (λ e. (e ≡ Memory) ⊎ ((e ≡ InvalidData) × (IsTaken validation h.version h.directory_count → ⊥)))
if_refused h bytes validation (Ok x) written whole error = error
if_refused h bytes validation (Err e) written whole error =
    ⊎_elim (λ short. absurd (let long : 512 ≤ length bytes = written.header.whole in omega (arith, long, short.1)))
    (λ wrong. inr (wrong.0, λ taken. absurd (refused (whole.1 (h.version, (written.header, subst (IsTaken validation h.version) (sym written.directory_count) taken))))))
    error
  where
    refused : IsOk {T = Header} (Err e) → ⊥
    refused ok = cc
