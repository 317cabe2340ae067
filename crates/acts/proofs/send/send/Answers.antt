use Rattle.std.proofs.Common.{◌≡◌, ℕ, List, Ok, Err, refl, ap, ◌∙◌}
use Rattle.rules.specs.Outcomes.{Outcome}
use Rattle.rules.specs.Calls.{driven_unless_refused}
use Rattle.acts.specs.Acts.{sent_to, answer_by}
use Rattle.acts.proofs.send.send.Goals as goal

-- the count of driven bytes is not told
uncounted : (o : Outcome) (n : ℕ) (sent : List ℕ) → answer_by (driven_unless_refused o n) sent ≡ answer_by o sent
uncounted (Ok done) n sent = refl
uncounted (Err refusal) n sent = refl

pub returns : goal.returns
unfolding sent_to
returns g c = record {
  chip = c.transact-answer.ensures.chip;
  answer = c.answer_by.ensures ∙ ap (λ a. answer_by a c.args.sent.now) c.transact-answer.ensures.answer ∙ uncounted _ _ _;
  area = c.transact-answer.ensures.area;
}
