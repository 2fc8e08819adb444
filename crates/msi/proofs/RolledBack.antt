-- A package that was rolled back.
use Rattle.std.proofs.Common.{◌≡◌, ◌∙◌, ◌⊎◌, ℕ, List, IsTrue, ap, inl, inr, refl, subst, sym, ⊎_elim}
use Rattle.std.proofs.Math.Bool.{beq}
use Rattle.std.specs.Prelude.{◌↔◌, Bool, false, not, true}
use Rattle.cfb.specs.Opened.{IsOpenedAs}
use Rattle.cfb.specs.Publishing.{medium_in}
use Rattle.cfb.specs.RollingBack.{CannotOpen, HasLostAll, FileRollsBack}
use Rattle.cfb.specs.Views.{file_case_table, mini_of, OnlyReadsFile}
use Rattle.cfb.specs.declared.compound_file.CompoundFile.{CompoundFile}
use Rattle.cfb_fat.specs.Tables.{bytes_of, has_failed_here, is_honest, IsJustifiedBySectors}
use Rattle.cfb_medium.specs.Calls.{Reaches, IsJustifiedError, IsJustifiedSince, IsFaultOrInvalidInputIf, KeepsMediumState}
use Rattle.cfb_medium.specs.declared.error.Error.{Error}
use Rattle.cfb_medium.specs.declared.error.Error.TheVariants.{AlreadyExists, Device, Failed, Full, InvalidData, InvalidInput, Memory, NotFound, UnexpectedEof}
use Rattle.cfb_medium.specs.declared.medium.ReadMedium.{Ghosts}
use Rattle.cfb_mini.specs.Views.{allocator_of}
use Rattle.cfb_sectors.specs.declared.validation.Validation.TheVariants.{Permissive}
use Rattle.msi_spec.specs.Opening.{keeps_encoded_names}
use Rattle.msi.proofs.OpenedPackages.{cause_since, found_opened, given_refused}
use Rattle.msi.specs.Opened.{IsOpenedPackage, AreBytesRejected, file_in, sound_in}
use Rattle.msi.specs.RollingBack.{PackageRollsBack, IsNoWayBack}
use Rattle.msi.specs.Steps.{IsPackageOfFile, MediumGivenBack}
use Rattle.msi.specs.declared.package.Package.{Package}

-- a fault is one also where more is
wider : (A : Type 0) (e : Error) → IsFaultOrInvalidInputIf ⊥ e → IsFaultOrInvalidInputIf A e
wider A InvalidInput is = absurd is
wider A Memory is = tt
wider A Device is = tt
wider A Failed is = tt
wider A InvalidData is = absurd is
wider A NotFound is = absurd is
wider A AlreadyExists is = absurd is
wider A UnexpectedEof is = absurd is
wider A Full is = absurd is

pub differ : (a b : Bool) → not (beq a b) ≡ true → a ≡ b → ⊥
differ true true other same = let never : false ≡ true = other in cc
differ false false other same = let never : false ≡ true = other in cc
differ true false other same = let never : true ≡ false = same in cc
differ false true other same = let never : false ≡ true = same in cc

same_truth : {S : Type 0} (a b : Bool) → IsTrue a ↔ S → IsTrue b ↔ S → a ≡ b
same_truth true true one two = refl
same_truth false false one two = refl
same_truth true false one two = absurd (let never : false ≡ true = two.1 (one.0 refl) in cc)
same_truth false true one two = absurd (let never : false ≡ true = one.1 (two.0 refl) in cc)

module _ {F : Type 0} {g : Ghosts F} (has_published : F → List ℕ → Type 0) (survives : Type 0) (old : Package F g) where
  -- the container refused
  pub no_way_by_file : (e : Error) → IsFaultOrInvalidInputIf survives e ⊎ (e ≡ InvalidData) → (e ≡ InvalidData → CannotOpen has_published Permissive (file_in old)) → IsNoWayBack has_published old survives e
  no_way_by_file e kind closed = record {
    told = λ may honest published was. ⊎_elim (λ fault. inl fault) (λ is. inr (inl (inr (may, inl (is, (closed is).cannot honest published was))))) kind;
  }

  module _ (mid : CompoundFile F g) (rolled : FileRollsBack has_published Permissive (file_in old) mid) (letters : file_case_table mid ≡ file_case_table (file_in old))
      (as_honest : g.honest (medium_in mid) ≡ g.honest (medium_in (file_in old))) where
    -- what was found in the published bytes
    module _ (may : keeps_encoded_names (file_case_table (file_in old)) ≡ true) (honest : IsTrue (is_honest (allocator_of (mini_of (file_in old))))) (published : List ℕ) (was : has_published (medium_in (file_in old)) published) where
      bytes : bytes_of (allocator_of (mini_of mid)) ≡ published
      bytes = rolled.bytes honest published was

      now_honest : IsTrue (g.honest (medium_in mid))
      now_honest = subst IsTrue (sym as_honest) honest

      as_opened : IsOpenedAs Permissive (file_case_table (file_in old)) (g.bytes (medium_in mid)) mid
      as_opened = subst (λ b. IsOpenedAs Permissive (file_case_table (file_in old)) b mid) (sym bytes) (rolled.opened honest published was)

      opened_so : (new : Package F g) → IsPackageOfFile mid new → IsOpenedPackage (file_case_table (file_in old)) published new
      opened_so new found = subst (λ b. IsOpenedPackage (file_case_table (file_in old)) b new) bytes
          (found_opened (medium_in mid) mid rolled.opens (file_case_table (file_in old)) letters may now_honest Permissive as_opened new found)

      refused_so : (m : F) (e : Error) → MediumGivenBack mid m e → IsFaultOrInvalidInputIf ⊥ e ⊎ AreBytesRejected (file_case_table (file_in old)) published e
      refused_so m e given = subst (λ b. IsFaultOrInvalidInputIf ⊥ e ⊎ AreBytesRejected (file_case_table (file_in old)) b e) bytes
          (given_refused (medium_in mid) mid rolled.opens (file_case_table (file_in old)) letters may now_honest Permissive as_opened m e given)

    pub goes_back : ((m : F) → g.continues m m) → ((a b : F) → g.continues a b → KeepsMediumState g.honest g.failed g.failures a b) → (new : Package F g) → IsPackageOfFile mid new → PackageRollsBack has_published old new
    goes_back continues_refl continues_keeps new found =
        let sectors = found.rests.mini.directory.allocator.sectors in
        let keeps = continues_keeps (medium_in mid) (medium_in (file_in new)) (sectors.continues (medium_in mid) (continues_refl (medium_in mid))) in
        record {
          live = sectors.failed ∙ rolled.opens.live;
          failed = sym keeps.as_failed ∙ rolled.failed;
          bytes = λ honest published was. sectors.bytes (subst IsTrue (sym as_honest) honest) ∙ rolled.bytes honest published was;
          opened = λ may honest published was. opened_so may honest published was new found;
        }

    module _ (new : Package F g) (found : IsPackageOfFile mid new) where
      pub honest_back : g.honest (medium_in (file_in new)) ≡ g.honest (medium_in (file_in old))
      honest_back = found.rests.mini.directory.allocator.sectors.honest ∙ as_honest

      pub continues_back : Reaches g.continues (medium_in (file_in old)) (medium_in mid) → Reaches g.continues (medium_in (file_in old)) (medium_in (file_in new))
      continues_back continues start from = found.rests.mini.directory.allocator.sectors.continues start (continues start from)

    -- it was read, and then it was failed
    module _ (read last : CompoundFile F g) (rests : OnlyReadsFile mid read) (medium_is : medium_in last ≡ medium_in read) (failed : has_failed_here (allocator_of (mini_of last)) ≡ true) where
      pub lost_all : HasLostAll has_published (file_in old) last
      lost_all = record {
        failed = failed;
        bytes = λ honest published was.
            ap g.bytes medium_is ∙ rests.mini.directory.allocator.sectors.bytes (subst IsTrue (sym as_honest) honest) ∙ rolled.bytes honest published was;
      }

      pub honest_last : g.honest (medium_in last) ≡ g.honest (medium_in (file_in old))
      honest_last = ap g.honest medium_is ∙ rests.mini.directory.allocator.sectors.honest ∙ as_honest

      module _ (continues : Reaches g.continues (medium_in (file_in old)) (medium_in mid)) where
        pub continues_last : Reaches g.continues (medium_in (file_in old)) (medium_in last)
        continues_last start from = subst (g.continues start) (sym medium_is) (rests.mini.directory.allocator.sectors.continues start (continues start from))

        pub cause_last : (e : Error) → IsJustifiedBySectors (allocator_of (mini_of mid)) (allocator_of (mini_of read)) e → IsJustifiedSince g.continues g.failures g.failed (medium_in (file_in old)) (medium_in last) e
        cause_last e cause start from = subst (λ m. IsJustifiedError g.failures g.failed start m e) (sym medium_is)
            (cause_since (medium_in mid) mid rolled.opens read e cause start (continues start from))

    -- since its parts couldn't be read
    pub no_way_by_parts : (m : F) (e : Error) → MediumGivenBack mid m e → IsNoWayBack has_published old survives e
    no_way_by_parts m e given = record {
      told = λ may honest published was. ⊎_elim (λ fault. inl (wider survives e fault)) (λ refused. inr (inl refused)) (refused_so may honest published was m e given);
    }

    -- since they are judged otherwise
    pub no_way_by_judgement : (new : Package F g) → IsPackageOfFile mid new → (sound_in new ≡ sound_in old → ⊥) → IsNoWayBack has_published old survives InvalidData
    no_way_by_judgement new found other = record {
      told = λ may honest published was. inr (inr (refl, λ same. other (same_truth (sound_in new) (sound_in old) (opened_so may honest published was new found).sound same)));
    }
