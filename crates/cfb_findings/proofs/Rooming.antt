-- How many bytes of a chain stand in a file, by twice as many parts at each turn.
use Rattle.std.proofs.Common.{⊎_elim, ◌≡◌, ◌∙◌, ℕ, zero, suc, ◌+◌, ◌-◌, ◌*◌, ◌<◌, ◌≤◌, min, true, false, List, [], ◌∷◌, ◌++◌, length, map, refl, sym, ap, subst, arith}
use Rattle.std.specs.Prelude.{◌↔◌, nat_eq, nat_le, slice_index, if◌then◌else◌}
use Rattle.std.specs.List.{range_with_len}
use Rattle.std.proofs.Math.Nat.{suc-mul}
use Rattle.std.proofs.lemmas.Bool.Decides.{eqb_tells, leb_tells}
use Rattle.std.proofs.lemmas.List.FromFn.{get_or-map-range_with_len, length-map-range_with_len, map-range_with_len_more}
use Rattle.std.proofs.lemmas.Option.{slice_get_within}
use Rattle.cfb_medium.specs.Versions.{sector_len}
use Rattle.cfb_medium.specs.declared.version.Version.{Version}
use Rattle.cfb_medium.specs.declared.version.Version.TheVariants.{V3, V4}
use Rattle.cfb_sectors.specs.Sectors.{end_of_chain, greatest_regular, Chain}
use Rattle.cfb_sectors.proofs.Chains.{chain_short}
use Rattle.cfb_soundness.specs.Places.{HoldBytes, StandInFile}
use Rattle.cfb_soundness.proofs.Pieces.{stand_here, stand_more, stand_rest}
use Rattle.cfb_findings.specs.Avail.{sector_bytes}
use Rattle.cfb_findings.specs.Links.{behind, linked}
use Rattle.cfb_findings.specs.Rooms.{more_room, of_part, room, AreRooms}
use Rattle.cfb_findings.proofs.Linking.{behind_regular, entry_at}

if_same : (x y u v : ℕ) → x ≡ y → (if nat_eq x y then u else v) ≡ u
if_same x y u v same = let test : nat_eq x y ≡ true = grind arith in ap (λ b. if b then u else v) test

if_other : (x y u v : ℕ) → (x ≡ y → ⊥) → (if nat_eq x y then u else v) ≡ v
if_other x y u v other = let test : nat_eq x y ≡ false = grind arith in ap (λ b. if b then u else v) test

pub of_regular : (xs : List ℕ) (n : ℕ) → n ≤ greatest_regular → of_part xs n ≡ slice_index xs n
of_regular xs n low = let test : nat_le n greatest_regular ≡ true = grind arith in ap (λ b. if b then slice_index xs n else 0) test

of_other : (xs : List ℕ) (n : ℕ) → greatest_regular < n → of_part xs n ≡ 0
of_other xs n high = let test : nat_le n greatest_regular ≡ false = grind arith in ap (λ b. if b then slice_index xs n else 0) test

past : (xs : List ℕ) (n : ℕ) → length xs ≤ n → slice_index xs n ≡ 0
past [] n over = refl
past (x ∷ xs) zero over = absurd (omega (arith, over))
past (x ∷ xs) (suc n) over = past xs n (omega (arith, over))

of_past : (xs : List ℕ) (n : ℕ) → length xs ≤ n → of_part xs n ≡ 0
of_past xs n over = ⊎_elim
    (λ low. of_regular xs n low.1 ∙ past xs n over)
    (λ high. of_other xs n high.1)
    (leb_tells n greatest_regular)

-- what is listed by a function is what it gives, where it gives nothing for other numbers
pub of_mapped : (f : ℕ → ℕ) (len n : ℕ) → (len ≤ n → f n ≡ 0) → (greatest_regular < n → f n ≡ 0) → of_part (map f (range_with_len 0 len)) n ≡ f n
of_mapped f len n over high = ⊎_elim
    (λ low. ⊎_elim
    (λ out. of_past (map f (range_with_len 0 len)) n (omega (arith, out.1, length-map-range_with_len f 0 len)) ∙ sym (over out.1))
    (λ inside. of_regular (map f (range_with_len 0 len)) n low.1 ∙ get_or-map-range_with_len f 0 len n n 0 inside.1 (omega arith))
    (leb_tells len n))
    (λ above. of_other (map f (range_with_len 0 len)) n above.1 ∙ sym (high above.1))
    (leb_tells n greatest_regular)

module _ (piece : ℕ) (avail links : List ℕ) where
  pub room_most : ((m : ℕ) → of_part avail m ≤ piece) → (k n : ℕ) → room piece k avail links n ≤ k * piece
  room_most most zero n = omega arith
  room_most most (suc k) n = ⊎_elim
      (λ same. let is = if_same (of_part avail n) piece (piece + room piece k avail links (behind links n)) (of_part avail n) same.1 in
      omega (arith, is, room_most most k (behind links n), suc-mul k piece))
      (λ other. let is = if_other (of_part avail n) piece (piece + room piece k avail links (behind links n)) (of_part avail n) other.1 in
      omega (arith, is, most n, suc-mul k piece))
      (eqb_tells (of_part avail n) piece)

  abbrev both : ℕ → ℕ → ℕ → ℕ
  both a b n = if nat_eq (room piece a avail links n) (a * piece) then room piece a avail links n + room piece b avail links (linked a links n) else room piece a avail links n

  room_then : 0 < piece → ((m : ℕ) → of_part avail m ≤ piece) → (a b n : ℕ) → room piece (a + b) avail links n ≡ both a b n
  room_then some most zero b n =
      let none : 0 + b ≡ b = omega arith in
      let zero_is : 0 ≡ 0 * piece = omega arith in
      ap (λ k. room piece k avail links n) none ∙ sym (if_same 0 (0 * piece) (0 + room piece b avail links n) 0 zero_is ∙ (let z : 0 + room piece b avail links n ≡ room piece b avail links n = omega arith in z))
  room_then some most (suc a) b n =
      let next = behind links n in
      let r = room piece a avail links next in
      let x = room piece b avail links (linked a links next) in
      let here = of_part avail n in
      let more : suc a + b ≡ suc (a + b) = omega arith in
      let later : room piece (a + b) avail links next ≡ both a b next = room_then some most a b next in
      ap (λ k. room piece k avail links n) more ∙ ⊎_elim
      (λ same.
      let long : room piece (suc (a + b)) avail links n ≡ piece + room piece (a + b) avail links next = if_same here piece (piece + room piece (a + b) avail links next) here same.1 in
      let first : room piece (suc a) avail links n ≡ piece + r = if_same here piece (piece + r) here same.1 in
      long ∙ ap (λ k. piece + k) later ∙ ⊎_elim
      (λ full.
      let all : room piece (suc a) avail links n ≡ suc a * piece = omega (arith, first, full.1, suc-mul a piece) in
      let end : piece + (r + x) ≡ room piece (suc a) avail links n + x = omega (arith, first) in
      ap (λ k. piece + k) (if_same r (a * piece) (r + x) r full.1) ∙ end
      ∙ sym (if_same (room piece (suc a) avail links n) (suc a * piece) (room piece (suc a) avail links n + x) (room piece (suc a) avail links n) all))
      (λ part.
      let not_all : room piece (suc a) avail links n ≡ suc a * piece → ⊥ = λ e. part.1 (omega (arith, e, first, suc-mul a piece)) in
      ap (λ k. piece + k) (if_other r (a * piece) (r + x) r part.1) ∙ sym first
      ∙ sym (if_other (room piece (suc a) avail links n) (suc a * piece) (room piece (suc a) avail links n + x) (room piece (suc a) avail links n) not_all))
      (eqb_tells r (a * piece)))
      (λ other.
      let long : room piece (suc (a + b)) avail links n ≡ here = if_other here piece (piece + room piece (a + b) avail links next) here other.1 in
      let first : room piece (suc a) avail links n ≡ here = if_other here piece (piece + r) here other.1 in
      let not_all : room piece (suc a) avail links n ≡ suc a * piece → ⊥ = λ e. other.1 (omega (arith, e, first, most n, suc-mul a piece)) in
      long ∙ sym first ∙ sym (if_other (room piece (suc a) avail links n) (suc a * piece) (room piece (suc a) avail links n + x) (room piece (suc a) avail links n) not_all))
      (eqb_tells here piece)

  pub room_twice : 0 < piece → ((m : ℕ) → of_part avail m ≤ piece) → (reach : ℕ) (rooms jumps : List ℕ) → ((n : ℕ) → of_part rooms n ≡ room piece reach avail links n)
      → ((n : ℕ) → behind jumps n ≡ linked reach links n) → (n : ℕ) → more_room rooms jumps (reach * piece) n ≡ room piece (reach * 2) avail links n
  room_twice some most reach rooms jumps so follow n =
      let two : reach + reach ≡ reach * 2 = omega arith in
      ap (λ x. if nat_eq x (reach * piece) then x + of_part rooms (behind jumps n) else x) (so n)
      ∙ ap (λ y. if nat_eq (room piece reach avail links n) (reach * piece) then room piece reach avail links n + y else room piece reach avail links n)
      (so (behind jumps n) ∙ ap (room piece reach avail links) (follow n))
      ∙ sym (room_then some most reach reach n)
      ∙ ap (λ k. room piece k avail links n) two

  -- at first of each part alone
  pub room_once : (n : ℕ) → of_part avail n ≡ room piece 1 avail links n
  room_once n = ⊎_elim
      (λ same. let sum : of_part avail n ≡ piece + 0 = omega (arith, same.1) in sum ∙ sym (if_same (of_part avail n) piece (piece + 0) (of_part avail n) same.1))
      (λ other. sym (if_other (of_part avail n) piece (piece + 0) (of_part avail n) other.1))
      (eqb_tells (of_part avail n) piece)

  room_other : 0 < piece → (k n : ℕ) → of_part avail n ≡ 0 → room piece k avail links n ≡ 0
  room_other some zero n none = refl
  room_other some (suc k) n none = if_other (of_part avail n) piece (piece + room piece k avail links (behind links n)) (of_part avail n) (λ e. omega (arith, e, none, some)) ∙ none

  -- of more parts than are listed there is no more
  pub rooms_listed : 0 < piece → ((m : ℕ) → of_part avail m ≤ piece) → (reach : ℕ) (rooms jumps : List ℕ) → 0 < reach → length rooms ≡ length avail
      → ((n : ℕ) → of_part rooms n ≡ room piece reach avail links n)
      → ((n : ℕ) → behind jumps n ≡ linked reach links n) → (n : ℕ)
      → of_part (map (more_room rooms jumps (reach * piece)) (range_with_len 0 (length rooms))) n ≡ room piece (reach * 2) avail links n
  rooms_listed some most reach rooms jumps far long so follow n =
      let f = more_room rooms jumps (reach * piece) in
      let is = room_twice some most reach rooms jumps so follow n in
      of_mapped f (length rooms) n
      (λ out. is ∙ room_other some (reach * 2) n (of_past avail n (omega (arith, out, long))))
      (λ high. is ∙ room_other some (reach * 2) n (of_other avail n high))
      ∙ is

hold_more : (piece size end s : ℕ) (starts : List ℕ) → piece ≤ end - s → HoldBytes piece starts (size - piece) end → HoldBytes piece (s ∷ starts) size end
hold_more piece size end s starts fits h =
    let left : size - piece ≡ size - min size piece = omega arith in
    record {
      enough = omega (arith, h.enough, suc-mul (length starts) piece);
      there = stand_more piece size end s starts (omega (arith, fits)) (subst (λ k. StandInFile piece starts k end) left h.there);
    }

hold_rest : (piece size end s : ℕ) (starts : List ℕ) → HoldBytes piece (s ∷ starts) size end → HoldBytes piece starts (size - piece) end
hold_rest piece size end s starts h =
    let left : size - min size piece ≡ size - piece = omega arith in
    record {
      enough = omega (arith, h.enough, suc-mul (length starts) piece);
      there = subst (λ k. StandInFile piece starts k end) left (stand_rest piece size end s starts h.there);
    }

hold_short : (piece size end s : ℕ) (starts : List ℕ) → size ≤ piece → size ≤ end - s → HoldBytes piece (s ∷ starts) size end
hold_short piece size end s starts few fits =
    let none : 0 ≡ size - min size piece = omega (arith, few) in
    record {
      enough = omega (arith, few, suc-mul (length starts) piece);
      there = stand_more piece size end s starts (omega (arith, fits)) (subst (λ k. StandInFile piece starts k end) none tt);
    }

hold_none : (piece size end : ℕ) → size ≡ 0 → HoldBytes piece [] size end
hold_none piece size end is = subst (λ k. HoldBytes piece [] k end) (sym is) (record { enough = omega arith; there = tt })

-- a chain holds just the bytes for which it has room
module _ (piece : ℕ) (avail links : List ℕ) (place : ℕ → ℕ) (end : ℕ) where
  pub chain_holds : 0 < piece → ((n : ℕ) → n < length links → slice_index avail n ≡ min piece (end - place n)) → (k start : ℕ) (ids : List ℕ) → Chain links start ids → length ids ≤ k
      → (size : ℕ) → (size ≤ room piece k avail links start) ↔ HoldBytes piece (map place ids) size end
  chain_holds some told k start [] is few size =
      let none : room piece k avail links start ≡ 0 = room_other piece avail links some k start (ap (of_part avail) is ∙ of_other avail end_of_chain (omega arith)) in (
        (λ fits. hold_none piece size end (omega (arith, fits, none))),
        (λ h. omega (arith, h.enough)),
      )
  chain_holds some told zero start (x ∷ ids) chain few size = absurd (omega (arith, few))
  chain_holds some told (suc k) start (x ∷ ids) (is, regular, next, found, rest) few size =
      let below : start < length links = slice_get_within links start next found in
      let here : of_part avail start ≡ min piece (end - place x) = of_regular avail start regular ∙ told start below ∙ ap (λ n. min piece (end - place n)) (sym is) in
      let on : behind links start ≡ next = behind_regular links start regular ∙ entry_at links start start next found in
      let r = room piece k avail links next in
      let later = chain_holds some told k next ids rest (omega (arith, few)) (size - piece) in
      ⊎_elim {C = (size ≤ room piece (suc k) avail links start) ↔ HoldBytes piece (map place (x ∷ ids)) size end}
      (λ same.
      let all : room piece (suc k) avail links start ≡ piece + r =
      if_same (of_part avail start) piece (piece + room piece k avail links (behind links start)) (of_part avail start) same.1 ∙ ap (λ n. piece + room piece k avail links n) on in
      let fits : piece ≤ end - place x = omega (arith, here, same.1) in (
        (λ low. hold_more piece size end (place x) (map place ids) fits (later.0 (omega (arith, low, all)))),
        (λ h. let less = later.1 (hold_rest piece size end (place x) (map place ids) h) in omega (arith, less, all)),
      ))
      (λ other.
      let all : room piece (suc k) avail links start ≡ of_part avail start =
      if_other (of_part avail start) piece (piece + room piece k avail links (behind links start)) (of_part avail start) other.1 in (
        (λ low. hold_short piece size end (place x) (map place ids) (omega (arith, low, all, here)) (omega (arith, low, all, here))),
        (λ h. let least = stand_here piece size end (place x) (map place ids) h.there in
            let under : of_part avail start < piece = ⊎_elim (λ up. absurd (other.1 (omega (arith, up.1, here)))) (λ down. down.1) (leb_tells piece (of_part avail start)) in
            omega (arith, least, all, here, under)),
      ))
      (eqb_tells (of_part avail start) piece)

  pub are_rooms : 0 < piece → ((n : ℕ) → n < length links → slice_index avail n ≡ min piece (end - place n)) → (k : ℕ) (rooms : List ℕ) → length links ≤ k
      → ((n : ℕ) → of_part rooms n ≡ room piece k avail links n) → AreRooms links piece place end rooms
  are_rooms some told k rooms long so start ids chain size =
      let short = chain_short links start ids chain in
      let both = chain_holds some told k start ids chain (omega (arith, short, long)) size in (
        (λ low. both.0 (subst (λ r. size ≤ r) (so start) low)),
        (λ h. subst (λ r. size ≤ r) (sym (so start)) (both.1 h)),
      )

pub rooms_long : (rooms jumps : List ℕ) (full : ℕ) → length (map (more_room rooms jumps full) (range_with_len 0 (length rooms))) ≡ length rooms
rooms_long rooms jumps full = length-map-range_with_len (more_room rooms jumps full) 0 (length rooms)

-- what is listed by a test of fewer bytes is never more
pub listed_most : (f : ℕ → ℕ) (len piece : ℕ) → ((n : ℕ) → f n ≤ piece) → (n : ℕ) → of_part (map f (range_with_len 0 len)) n ≤ piece
listed_most f len piece most n = ⊎_elim
    (λ low. ⊎_elim
    (λ out. omega (arith, of_past (map f (range_with_len 0 len)) n (omega (arith, out.1, length-map-range_with_len f 0 len))))
    (λ inside. omega (arith, most n, of_regular (map f (range_with_len 0 len)) n low.1, get_or-map-range_with_len f 0 len n n 0 inside.1 (omega arith)))
    (leb_tells len n))
    (λ above. omega (arith, of_other (map f (range_with_len 0 len)) n above.1))
    (leb_tells n greatest_regular)

pub listed_at : (f : ℕ → ℕ) (len n : ℕ) → n < len → slice_index (map f (range_with_len 0 len)) n ≡ f n
listed_at f len n below = get_or-map-range_with_len f 0 len n n 0 below (omega arith)

-- what is listed by a function, one more
pub mapped_more : (f : ℕ → ℕ) (old new : List ℕ) (i x : ℕ) → old ≡ map f (range_with_len 0 i) → x ≡ f i → new ≡ old ++ (x ∷ []) → new ≡ map f (range_with_len 0 (i + 1))
mapped_more f old new i x so is added =
    added ∙ ap (λ l. l ++ (x ∷ [])) so ∙ ap (λ y. map f (range_with_len 0 i) ++ (y ∷ [])) is ∙ sym (map-range_with_len_more f 0 i i (omega arith))

pub sector_told : (v : Version) (end i x len : ℕ) → x ≡ min len (end - (i + 1) * len) → len ≡ sector_len v → x ≡ sector_bytes v end i
sector_told v end i x len is same = is ∙ ap (λ l. min l (end - (i + 1) * l)) same

pub sector_some : (v : Version) → 0 < sector_len v
sector_some V3 = omega arith
sector_some V4 = omega arith

pub sector_small : (v : Version) → sector_len v ≤ 4096
sector_small V3 = omega arith
sector_small V4 = omega arith
