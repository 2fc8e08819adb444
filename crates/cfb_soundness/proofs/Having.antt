-- What entries use, one after the other.
use Rattle.std.proofs.Common.{◌≡◌, ℕ, ◌<◌, ◌≤◌, List, [], ◌∷◌, ◌++◌, refl, ap, sym, subst, ◌∙◌, append_assoc, append-nil, ⊎_elim}
use Rattle.std.proofs.lemmas.Bool.Decides.{eqb_tells, leb_tells}
use Rattle.cfb_sectors.specs.Header.{mini_cutoff}
use Rattle.cfb_sectors.specs.Sectors.{Chain}
use Rattle.cfb_sectors.proofs.OneChain.{chain_unique}
use Rattle.cfb_tree.specs.Directory.{kind_stream, Entry}
use Rattle.cfb_tree.proofs.OneContent.{Some_same}
use Rattle.cfb_soundness.specs.Marks.{CanTake}
use Rattle.cfb_soundness.specs.Uses.{EntriesHave, EntryHas, SectorTables}
use Rattle.cfb_soundness.specs.Views.{marks_of, CanTakeBoth, TakesBoth}
use Rattle.cfb_soundness.specs.declared.streams.Taken.{Taken}
use Rattle.cfb_soundness.proofs.Taking.{can_take_front, can_take_rest, takes_none, takes_then}

module _ (t : SectorTables) where
  entry_unique : (id : ℕ) (s m s' m' : List ℕ) → EntryHas t id s m → EntryHas t id s' m' → (s ≡ s') × (m ≡ m')
  entry_unique id s m s' m' h k' =
      let same : k'.entry ≡ h.entry = Some_same (sym k'.found ∙ h.found) in
      ⊎_elim
      (λ is. let is' : k'.entry.kind ≡ kind_stream = ap (λ (e : Entry). e.kind) same ∙ is.1 in
      ⊎_elim
      (λ up.
      let a = h.long is.1 up.1 in
      let b = k'.long is' (subst (λ (e : Entry). mini_cutoff ≤ e.size) (sym same) up.1) in
      (chain_unique t.fat h.entry.start s s' a.1.chain (subst (λ (e : Entry). Chain t.fat e.start s') same b.1.chain), a.0 ∙ sym b.0))
      (λ below.
      let a = h.short is.1 below.1 in
      let b = k'.short is' (subst (λ (e : Entry). e.size < mini_cutoff) (sym same) below.1) in
      (a.0 ∙ sym b.0, chain_unique t.mini_fat h.entry.start m m' a.1.chain (subst (λ (e : Entry). Chain t.mini_fat e.start m') same b.1.chain)))
      (leb_tells mini_cutoff h.entry.size))
      (λ other.
      let a = h.other other.1 in
      let b = k'.other (λ is. other.1 (ap (λ (e : Entry). e.kind) (sym same) ∙ is)) in
      (a.0 ∙ sym b.0, a.1 ∙ sym b.1))
      (eqb_tells h.entry.kind kind_stream)

  entries_unique : (ids s m s' m' : List ℕ) → EntriesHave t ids s m → EntriesHave t ids s' m' → (s ≡ s') × (m ≡ m')
  entries_unique [] s m s' m' h k = (h.0 ∙ sym k.0, h.1 ∙ sym k.1)
  entries_unique (id ∷ ids) s m s' m' (own, rest, minis, rest_minis, here, later, is, minis_is) (own', rest', minis', rest_minis', here', later', is', minis_is') =
      let a = entry_unique id own minis own' minis' here here' in
      let b = entries_unique ids rest rest_minis rest' rest_minis' later later' in (
        is ∙ ap (λ xs. xs ++ rest) a.0 ∙ ap (λ xs. own' ++ xs) b.0 ∙ sym is',
        minis_is ∙ ap (λ xs. xs ++ rest_minis) a.1 ∙ ap (λ xs. minis' ++ xs) b.1 ∙ sym minis_is',
      )

  entries_more : (ids s m : List ℕ) (id : ℕ) (own minis : List ℕ) → EntriesHave t ids s m → EntryHas t id own minis → EntriesHave t (ids ++ id ∷ []) (s ++ own) (m ++ minis)
  entries_more [] s m id own minis h one =
      (own, [], minis, [], one, (refl, refl), ap (λ xs. xs ++ own) h.0 ∙ sym (append-nil own), ap (λ xs. xs ++ minis) h.1 ∙ sym (append-nil minis))
  entries_more (x ∷ ids) s m id own minis (first, rest, first_minis, rest_minis, here, later, is, minis_is) one = (
    first,
    rest ++ own,
    first_minis,
    rest_minis ++ minis,
    here,
    entries_more ids rest rest_minis id own minis later one,
    ap (λ xs. xs ++ own) is ∙ append_assoc first rest own,
    ap (λ xs. xs ++ minis) minis_is ∙ append_assoc first_minis rest_minis minis,
  )

  -- what the first entries use stands in front of what the others do
  entries_split : (xs ys s m : List ℕ) → EntriesHave t (xs ++ ys) s m
      → (s1 s2 m1 m2 : List ℕ) × EntriesHave t xs s1 m1 × EntriesHave t ys s2 m2 × (s ≡ s1 ++ s2) × (m ≡ m1 ++ m2)
  entries_split [] ys s m h = ([], s, [], m, (refl, refl), h, refl, refl)
  entries_split (x ∷ xs) ys s m (own, rest, minis, rest_minis, here, later, is, minis_is) =
      let (s1, s2, m1, m2, front, back, rest_is, rest_minis_is) = entries_split xs ys rest rest_minis later in (
        own ++ s1,
        s2,
        minis ++ m1,
        m2,
        (own, s1, minis, m1, here, front, refl, refl),
        back,
        is ∙ ap (λ l. own ++ l) rest_is ∙ sym (append_assoc own s1 s2),
        minis_is ∙ ap (λ l. minis ++ l) rest_minis_is ∙ sym (append_assoc minis m1 m2),
      )

  -- so many entries have been gone through
  pub record Gone (ids : List ℕ) (old new : Taken) : Type 0 where
    pub sectors : List ℕ
    pub minis : List ℕ
    pub have : EntriesHave t ids sectors minis
    pub takes : TakesBoth sectors minis old new

  pub none_gone : (it : Taken) → Gone [] it it
  none_gone it = record {
    sectors = [];
    minis = [];
    have = (refl, refl);
    takes = record { of_sectors = takes_none (marks_of it.sectors); of_minis = takes_none (marks_of it.minis) };
  }

  pub one_gone : (ids : List ℕ) (id : ℕ) (old mid new : Taken) (own minis : List ℕ) → Gone ids old mid → EntryHas t id own minis → TakesBoth own minis mid new → Gone (ids ++ id ∷ []) old new
  one_gone ids id old mid new own minis gone has takes = record {
    sectors = gone.sectors ++ own;
    minis = gone.minis ++ minis;
    have = entries_more ids gone.sectors gone.minis id own minis gone.have has;
    takes = record {
      of_sectors = takes_then gone.sectors own (marks_of old.sectors) (marks_of mid.sectors) (marks_of new.sectors) gone.takes.of_sectors takes.of_sectors;
      of_minis = takes_then gone.minis minis (marks_of old.minis) (marks_of mid.minis) (marks_of new.minis) gone.takes.of_minis takes.of_minis;
    };
  }

  -- where an entry can't have what it uses, the whole can't
  pub none_fits : (xs ys : List ℕ) (id : ℕ) (old mid : Taken) → Gone xs old mid → ((own minis : List ℕ) → EntryHas t id own minis → CanTakeBoth own minis mid → ⊥)
      → (s m : List ℕ) → EntriesHave t (xs ++ (id ∷ ys)) s m → CanTakeBoth s m old → ⊥
  none_fits xs ys id old mid gone never s m have can =
      let (s1, s2, m1, m2, front, (own, rest, minis, rest_minis, here, later, is, minis_is), s_is, m_is) = entries_split xs (id ∷ ys) s m have in
      let same = entries_unique xs s1 m1 gone.sectors gone.minis front gone.have in
      let sectors : s ≡ gone.sectors ++ (own ++ rest) = s_is ∙ ap (λ l. l ++ s2) same.0 ∙ ap (λ l. gone.sectors ++ l) is in
      let all_minis : m ≡ gone.minis ++ (minis ++ rest_minis) = m_is ∙ ap (λ l. l ++ m2) same.1 ∙ ap (λ l. gone.minis ++ l) minis_is in
      never own minis here (record {
        of_sectors = can_take_front own rest (marks_of mid.sectors)
            (can_take_rest gone.sectors (own ++ rest) (marks_of old.sectors) (marks_of mid.sectors) gone.takes.of_sectors (subst (λ l. CanTake l (marks_of old.sectors)) sectors can.of_sectors));
        of_minis = can_take_front minis rest_minis (marks_of mid.minis)
            (can_take_rest gone.minis (minis ++ rest_minis) (marks_of old.minis) (marks_of mid.minis) gone.takes.of_minis (subst (λ l. CanTake l (marks_of old.minis)) all_minis can.of_minis));
      })
