-- What is written, one step at a time.
use Rattle.std.proofs.Common.{◌≡◌, ℕ, List, [], ◌∷◌, ◌++◌, length, take, replicate, refl, ap, sym, ◌∙◌, ◌≤◌, append_assoc, arith, length-take}
use Rattle.std.specs.Prelude.{Result, Ok, Err, OnOk}
use Rattle.std.specs.Int.{w16, to_le_bytes}
use Rattle.std.specs.List.{flat_map}
use Rattle.std.proofs.Math.Seq.{take-append_seam}
use Rattle.std.proofs.lemmas.List.{take-take}
use Rattle.cfb_medium.specs.Numbers.{number_bytes}
use Rattle.cfb_medium.specs.Versions.{major, sector_shift}
use Rattle.cfb_sectors.specs.Appended.{IsPrefixOf}
use Rattle.cfb_sectors.specs.Header.{HeaderFields, header_bytes, signature}

pub Begins-append : (a x b : List ℕ) → b ≡ a ++ x → IsPrefixOf a b
Begins-append a x b e = record { same = ap (λ l. take (length a) l) e ∙ take-append_seam a x }

pub Begins-then : (a b c : List ℕ) → IsPrefixOf a b → IsPrefixOf b c → IsPrefixOf a c
Begins-then a b c h k =
    let short : length a ≤ length b = omega (arith, ap length h.same, length-take (length a) b) in
    record { same = sym (take-take (length a) (length b) c short) ∙ ap (λ l. take (length a) l) k.same ∙ h.same }

-- what was appended in parts was appended
pub appended_2 : (a b c x y : List ℕ) → b ≡ a ++ x → c ≡ b ++ y → c ≡ a ++ (x ++ y)
appended_2 a b c x y e f = f ∙ ap (λ xs. xs ++ y) e ∙ append_assoc a x y

pub appended_3 : (a b c d x y z : List ℕ) → b ≡ a ++ x → c ≡ b ++ y → d ≡ c ++ z → d ≡ a ++ (x ++ y ++ z)
appended_3 a b c d x y z e f g = appended_2 a c d (x ++ y) z (appended_2 a b c x y e f) g

pub appended_4 : (a b c d e w x y z : List ℕ) → b ≡ a ++ w → c ≡ b ++ x → d ≡ c ++ y → e ≡ d ++ z → e ≡ a ++ (w ++ x ++ y ++ z)
appended_4 a b c d e w x y z i j k l = appended_2 a d e (w ++ x ++ y) z (appended_3 a b c d w x y i j k) l

pub appended_5 : (a b c d e f v w x y z : List ℕ) → b ≡ a ++ v → c ≡ b ++ w → d ≡ c ++ x → e ≡ d ++ y → f ≡ e ++ z → f ≡ a ++ (v ++ w ++ x ++ y ++ z)
appended_5 a b c d e f v w x y z i j k l m = appended_2 a e f (v ++ w ++ x ++ y) z (appended_4 a b c d e v w x y i j k l) m

-- the parts of a header, as they are written
pub header_parts : (h : HeaderFields) → header_bytes h ≡
    (signature ++ replicate 16 0 ++ flat_map (to_le_bytes w16) (0x3E ∷ major h.version ∷ 0xFFFE ∷ sector_shift h.version ∷ 6 ∷ []) ++ replicate 6 0
    ++ number_bytes (h.directory_count ∷ h.fat_count ∷ h.first_directory ∷ 0 ∷ 4096 ∷ h.first_mini_fat ∷ h.mini_fat_count ∷ h.first_difat ∷ h.difat_count ∷ []))
    ++ number_bytes h.difat
unfolding header_bytes
header_parts h = refl

-- what follows where a call succeeds
pub on_ok : {A E : Type 0} (r : Result A E) (P Q : Type 0) → (P → Q) → OnOk r P → OnOk r Q
on_ok (Ok x) P Q f h = f h
on_ok (Err e) P Q f h = h
