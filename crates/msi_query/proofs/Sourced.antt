-- What is answered of a source, step by step.
use Rattle.std.proofs.Common.{◌≡◌, ◌∙◌, ◌⊎◌, ap, refl, inl, inr, ⊎_elim}
use Rattle.std.specs.Prelude.{option_map, IfErr, Option, Some, None, Result, Ok, Err}
use Rattle.cfb_medium.specs.declared.error.Error.{Error}
use Rattle.cfb_medium.specs.declared.error.Error.TheVariants.{InvalidInput, Memory}
use Rattle.msi_query.specs.Sources.{AnswersOf, TablesByName}
use Rattle.msi_tables.specs.Table.{Table}
use Rattle.msi_texts.specs.Results.{ReturnsOrOutOfMemory, or_refused, ◌>>=◌}

-- no table
pub found_none : {X : Type 0} (found : Option Table) (refusal : Error) (f : Table → X) → None ≡ option_map f found → or_refused found refusal ≡ Err refusal
found_none None refusal f none = refl
found_none (Some t) refusal f none = absurd (cc none)

-- ---- one step after another

-- the last of three
pub then_both : {X : Type 0} (has : TablesByName → Type 0) (is_fault : Error → Type 0) (see : X → Table) (r : Result X Error) (one two : TablesByName → Result Table Error)
    (f : Table → Table → Result Table Error) (a b : Table) → ((ts : TablesByName) → has ts → one ts ≡ Ok a) → ((ts : TablesByName) → has ts → two ts ≡ Ok b) → ReturnsOrOutOfMemory see r (f a b) → IfErr r (λ e. (e ≡ Memory) ⊎ (e ≡ InvalidInput)) →
    AnswersOf has is_fault see r (λ ts. one ts >>= λ x. two ts >>= λ y. f x y)
then_both has is_fault see (Ok x) one two f a b first second last kind =
    λ ts h. ap (λ m. m >>= λ x. two ts >>= λ y. f x y) (first ts h) ∙ ap (λ m. m >>= λ y. f a y) (second ts h) ∙ last
then_both has is_fault see (Err e) one two f a b first second (inl memory) kind = inl memory
then_both has is_fault see (Err e) one two f a b first second (inr refused) kind =
    ⊎_elim (λ memory. inl memory)
    (λ input. inr (inr (inr input, λ ts h. ap (λ m. m >>= λ x. two ts >>= λ y. f x y) (first ts h) ∙ ap (λ m. m >>= λ y. f a y) (second ts h) ∙ refused))) kind

-- the first was refused
pub first_refused : {X Y : Type 0} (has : TablesByName → Type 0) (is_fault : Error → Type 0) (see : X → Table) (see_too : Y → Table) (e : Error) (one : TablesByName → Result Table Error)
    (f : TablesByName → Table → Result Table Error) → AnswersOf has is_fault see (Err e) one → AnswersOf has is_fault see_too (Err e) (λ ts. one ts >>= f ts)
first_refused has is_fault see see_too e one f (inl memory) = inl memory
first_refused has is_fault see see_too e one f (inr (inl fault)) = inr (inl fault)
first_refused has is_fault see see_too e one f (inr (inr refused)) = inr (inr (refused.0, λ ts h. ap (λ m. m >>= f ts) (refused.1 ts h)))

-- the second was refused, of a source that had read for the first
pub second_refused : {X Y : Type 0} (has still : TablesByName → Type 0) (is_fault is_later : Error → Type 0) (see : X → Table) (see_too : Y → Table) (e : Error)
    (one two : TablesByName → Result Table Error) (f : Table → Table → Result Table Error) (a : Table) → ((ts : TablesByName) → has ts → still ts) → (is_later e → is_fault e) →
    ((ts : TablesByName) → has ts → one ts ≡ Ok a) → AnswersOf still is_later see (Err e) two → AnswersOf has is_fault see_too (Err e) (λ ts. one ts >>= λ x. two ts >>= λ y. f x y)
second_refused has still is_fault is_later see see_too e one two f a kept cause first (inl memory) = inl memory
second_refused has still is_fault is_later see see_too e one two f a kept cause first (inr (inl fault)) = inr (inl (cause fault))
second_refused has still is_fault is_later see see_too e one two f a kept cause first (inr (inr refused)) =
    inr (inr (refused.0, λ ts h. ap (λ m. m >>= λ x. two ts >>= λ y. f x y) (first ts h) ∙ ap (λ m. m >>= λ y. f a y) (refused.1 ts (kept ts h))))
