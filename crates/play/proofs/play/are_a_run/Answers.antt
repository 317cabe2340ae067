use Rattle.std.proofs.Common.{◌≡◌, ℕ, List, [], ◌∷◌, refl, ◌∙◌}
use Rattle.rules.specs.Law.{Moment, Run, rest, then, next, new}
use Rattle.play.specs.declared.call.Call.{Call}
use Rattle.play.specs.declared.call.Call.TheVariants.{Transaction, Step, PowerCycle}
use Rattle.play.specs.Played.{ruled, chip_after_call, chip_after_calls, played}
use Rattle.play.proofs.play.are_a_run.Goals as goal

-- calls lengthen a run
further : (n : ℕ) (calls : List Call) (i j : Moment) → Run i j → Run i (played j n calls)
further n [] i j r = r
further n (call ∷ calls) i j r = further n calls i (next j (ruled n call)) (then r (ruled n call))

same_card : (n : ℕ) (call : Call) (m : Moment) → (next m (ruled n call)).chip ≡ chip_after_call m.chip n call
same_card n (Transaction sent low) m = refl
same_card n Step m = refl
same_card n PowerCycle m = refl

same_cards : (n : ℕ) (calls : List Call) (m : Moment) → (played m n calls).chip ≡ chip_after_calls m.chip n calls
same_cards n [] m = refl
same_cards n (call ∷ calls) m = same_cards n calls (next m (ruled n call)) ∙ (λ i. chip_after_calls (same_card n call m i) n calls)

pub returns : goal.returns
returns c = λ n main otp. record { run = further n c.args.calls.now (new main otp) (new main otp) rest; card = same_cards n c.args.calls.now (new main otp) }
