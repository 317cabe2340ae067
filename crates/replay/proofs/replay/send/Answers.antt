use Rattle.std.proofs.Common.{◌≡◌, ℕ, ◌≤◌, List, length, take, Result, ap, ◌∙◌, arith}
use Rattle.std.specs.Result.{result_unwrap_or}
use Rattle.std.proofs.lemmas.List.{take_all}
use Rattle.frames.specs.Frames.{told}
use Rattle.rules.specs.declared.refusal.Refusal.{Refusal}
use Rattle.rules.specs.Outcomes.{outcome_number}
use Rattle.rules.specs.Refusals.{outcome}
use Rattle.rules.specs.Calls.{transact}
use Rattle.rules.proofs.Answered.{tells_number, tells_driven, driven_fits}
use Rattle.tape.specs.Answers.{transaction_text}
use Rattle.replay.proofs.replay.send.Goals as goal

pub overflow_cast-driven : goal.overflow_cast-driven
overflow_cast-driven g c =
    let before = g.C.StoreCard.chip c.args.card.now in
    let sent = c.args.sent.now in
    let n = length c.args.area.now in
    let o = outcome before c.args.low sent in
    let is : c.unwrap_or-driven.result ≡ (transact before sent c.args.low n).driven = c.unwrap_or-driven.ensures ∙ ap (λ (a : Result ℕ Refusal). result_unwrap_or a 0) c.transact-answer.ensures.answer ∙ tells_driven before (told sent) o n in
    let most = driven_fits before (told sent) o n in
    omega (arith, is, most)

-- an area no longer than what a text shows of it
shown : (n d k e : ℕ) (xs ys text : List ℕ) → n ≡ k → d ≡ e → xs ≡ ys → length xs ≤ 64 → text ≡ transaction_text n d (take 64 xs) → text ≡ transaction_text k e ys
shown n d k e xs ys text p q r h t =
    t
    ∙ ap (transaction_text n d) (take_all 64 xs h ∙ r)
    ∙ ap (λ m. transaction_text m d ys) p
    ∙ ap (λ m. transaction_text k m ys) q

pub returns-clause-text : goal.returns-clause-text
returns-clause-text g c =
    let before = g.C.StoreCard.chip c.args.card.now in
    let sent = c.args.sent.now in
    let n = length c.args.area.now in
    let o = outcome before c.args.low sent in
    let e = c.transact-answer.ensures.answer in
    shown _ _ _ _ c.transact-answer.new.area _ _
    (c.outcome_number.ensures ∙ ap (λ (a : Result ℕ Refusal). outcome_number a) e ∙ tells_number o _)
    (c.unwrap_or-driven.ensures ∙ ap (λ (a : Result ℕ Refusal). result_unwrap_or a 0) e ∙ tells_driven before (told sent) o n)
    c.transact-answer.ensures.area (omega arith) c.transaction.ensures
