use Rattle.std.proofs.Common.{◌∙◌, ◌++◌, [], ◌∷◌, map, ap, sym, append_assoc, append-nil}
use Rattle.std.proofs.lemmas.List.{map-append}
use Rattle.std.specs.Prelude.{string_bytes}
use Rattle.msi.specs.Lists.{streams_left}
use Rattle.msi_copies.proofs.copies.names_of_streams.Goals as goal

pub loop-name-init : goal.loop-name-init
loop-name-init c =
    ap (λ ns. map string_bytes ns ++ map string_bytes (streams_left c.into_iter-name-iterator.result)) c.new-names.ensures.items
    ∙ ap (λ it. map string_bytes (streams_left it)) c.into_iter-name-iterator.ensures.into_iter_gives

pub loop-name-preserved : goal.loop-name-preserved
loop-name-preserved c =
    let left = map string_bytes (streams_left c.next.new.self) in
    ap (λ names. map string_bytes names ++ left) c.in_ok-push.ensures.items
    ∙ ap (λ names. names ++ left) (map-append string_bytes c.loop-name.names.items (c.in-Some.name ∷ []))
    ∙ append_assoc (map string_bytes c.loop-name.names.items) (string_bytes c.in-Some.name ∷ []) left
    ∙ ap (λ names. map string_bytes c.loop-name.names.items ++ map string_bytes names) (sym c.in-Some.ensures.steps)
    ∙ c.loop-name.invariant

pub returns-clause-names : goal.returns-clause-names
returns-clause-names c =
    sym (append-nil (map string_bytes c.loop-name.names.items))
    ∙ ap (λ names. map string_bytes c.loop-name.names.items ++ map string_bytes names) (sym c.in-None.ensures.steps.0)
    ∙ c.loop-name.invariant
