use Rattle.std.proofs.Common.{ℕ, List, ◌≡◌, ◌++◌, [], ◌∷◌, length, map, unwrap_or, sym, ap, ◌∙◌, append-nil}
use Rattle.std.specs.Str.{chars}
use Rattle.std.proofs.lemmas.Iterator.{YieldsList-from_chars}
use Rattle.std.proofs.lemmas.Iterator.Consumers.{YieldsList-turn, YieldsList-end}
use Rattle.msi_texts.specs.Page.{byte_of}
use Rattle.msi_texts.proofs.CharsLoop.{rest_before, rest_after, moved}
use Rattle.msi_texts.proofs.codepage.CodePage.encode_chars.Goals as goal

pub loop-ch-preserved : goal.loop-ch-preserved
loop-ch-preserved c =
    let t = YieldsList-turn (YieldsList-from_chars c.args.text.now c.utf8.text cc) c.loop-ch.yielded _ c.loop-ch.yielded_by _ _ c.in-Some.ch c.in-Some.is c.next.ensures.steps in
    let written : List ℕ → List ℕ = map (λ c'. unwrap_or (byte_of c.args.self c') 63) in
    let before = ap written (rest_before _ _ _ t) in
    let byte : c.unwrap_or.result ≡ unwrap_or (byte_of c.args.self c.in-Some.ch) 63 = c.unwrap_or.ensures ∙ ap (λ o. unwrap_or o 63) c.byte_of.ensures in
    moved _ _ _ _ _ _ c.loop-ch.invariant before (c.in_ok-push.ensures.items ∙ ap (λ b. c.loop-ch.bytes.items ++ b ∷ []) byte)

pub returns : goal.returns
returns c =
    let t = YieldsList-end (YieldsList-from_chars c.args.text.now c.utf8.text cc) c.loop-ch.yielded _ c.loop-ch.yielded_by _ _ c.in-None.is c.next.ensures.steps in
    let written : List ℕ → List ℕ = map (λ c'. unwrap_or (byte_of c.args.self c') 63) in
    sym (append-nil _) ∙ ap (λ rest. c.loop-ch.bytes.items ++ written rest) (sym (rest_after (chars c.args.text.now) (length c.loop-ch.yielded) t.1)) ∙ c.loop-ch.invariant
