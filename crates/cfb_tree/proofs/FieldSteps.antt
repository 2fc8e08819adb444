-- A name's field, one character at a time, and the parts of an entry's bytes.
use Rattle.std.proofs.Common.{◌≡◌, ℕ, ◌+◌, ◌-◌, ◌≤◌, List, [], ◌∷◌, ◌++◌, length, take, drop, replicate, flat_map, refl, ap, sym, ◌∙◌, arith, append_assoc, append-nil, length-append, length-take, length-drop}
use Rattle.std.specs.Char.Escape.{encode_utf16}
use Rattle.std.specs.Int.{w16, w32, w64, to_le_bytes}
use Rattle.std.proofs.lemmas.List.{drop-drop, drop-replicate, take-append-drop}
use Rattle.std.proofs.lemmas.Slice.{take-put_mid, drop-put_mid}
use borrow.Rule.Slice.PartMut.{put_mid}
use Rattle.cfb_tree.specs.Directory.{Entry, entry_bytes, clsid_of}
use Rattle.cfb_tree.specs.Names.{name_units}
use Rattle.cfb_tree.specs.Entries.{name_field}

module _ (field written : List ℕ) (len n c : ℕ) (is : written ≡ encode_utf16 c) (long : length written ≡ n) (low : len + n ≤ 32) (whole : length field ≡ 32) where
  abbrev next : List ℕ
  next = put_mid len (len + n - len) field written

  front : take (len + n) next ≡ take len field ++ written
  front = take-put_mid len (len + n - len) field written (len + n) (omega (arith, long)) (omega (arith, low, whole))

  behind : drop (len + n) next ≡ drop (len + n) field
  behind = drop-put_mid len (len + n - len) field written (len + n) (omega arith) (omega (arith, low, whole)) (omega (arith, long))

  pub still_whole : length next ≡ 32
  still_whole =
      let all = ap length (sym (take-append-drop (len + n) next)) ∙ length-append (take (len + n) next) (drop (len + n) next) in
      omega (arith, all, long, low, whole, ap length front, length-append (take len field) written, length-take len field, ap length behind, length-drop (len + n) field)

  pub still_zeros : drop len field ≡ replicate (32 - len) 0 → drop (len + n) next ≡ replicate (32 - (len + n)) 0
  still_zeros zeros =
      let less : 32 - len - n ≡ 32 - (len + n) = omega arith in
      behind ∙ sym (drop-drop n len field) ∙ ap (drop n) zeros ∙ drop-replicate n (32 - len) 0 ∙ ap (λ k. replicate k 0) less

  pub more_units : (whole_name rest all : List ℕ) → take len field ++ name_units whole_name ≡ all → whole_name ≡ c ∷ rest → take (len + n) next ++ name_units rest ≡ all
  more_units whole_name rest all kept cut =
      ap (λ xs. xs ++ name_units rest) (front ∙ ap (λ xs. take len field ++ xs) is)
      ∙ append_assoc (take len field) (encode_utf16 c) (name_units rest) ∙ ap (λ z. take len field ++ name_units z) (sym cut) ∙ kept

pub whole_field : (field : List ℕ) (len : ℕ) (rest name : List ℕ) → drop len field ≡ replicate (32 - len) 0 → take len field ++ name_units rest ≡ name_units name → rest ≡ [] → len ≡ length (name_units name) → field ≡ name_field name
whole_field field len rest name zeros units end count =
    sym (take-append-drop len field) ∙ ap (λ xs. xs ++ drop len field) (sym (append-nil (take len field)) ∙ ap (λ z. take len field ++ name_units z) (sym end) ∙ units)
    ∙ ap (λ xs. name_units name ++ xs) (zeros ∙ ap (λ n. replicate (32 - n) 0) count)

-- the parts of an entry's bytes, as they are written
pub entry_parts : (e : Entry) → entry_bytes e ≡
    (flat_map (to_le_bytes w16) e.name_units ++ (to_le_bytes w16 e.name_len ++ e.kind ∷ e.color ∷ to_le_bytes w32 e.left ++ to_le_bytes w32 e.right ++ to_le_bytes w32 e.child))
    ++ clsid_of e.facts.clsid
    ++ (to_le_bytes w32 e.facts.state_bits ++ to_le_bytes w64 e.facts.created ++ to_le_bytes w64 e.facts.modified ++ to_le_bytes w32 e.start ++ to_le_bytes w64 e.size)
unfolding entry_bytes
entry_parts e = refl

pub regrouped : (w x y z : List ℕ) → w ++ x ++ y ++ z ≡ w ++ (x ++ y ++ z)
regrouped w x y z = ap (λ xs. xs ++ z) (append_assoc w x y) ∙ append_assoc w (x ++ y) z
