use Rattle.std.proofs.Common.{◌≡◌, ℕ, List, take, Option, ap, ◌∙◌, subst}
use Rattle.tape.specs.Lines.{Request, request_in}
use Rattle.replay.specs.Replayed.{chip_after_any, text_after_any}
use Rattle.replay.proofs.Cut.{cut_is_same}
use Rattle.replay.proofs.lines.replay_kept.Goals as goal

-- What holds of the kept bytes holds of the whole line.
of_whole : (P : Option Request → Type 0) (bytes text whole : List ℕ) → bytes ≡ text → text ≡ take 137 whole → P (request_in bytes) → P (request_in whole)
of_whole P bytes text whole p q h = subst P (ap request_in (p ∙ q) ∙ cut_is_same whole) h

pub returns : goal.returns
returns g c =
    let before = g.C.StoreCard.chip c.args.card.now in
    let after = g.C.StoreCard.chip c.replay_line.new.card in
    record {
      chip = λ whole e. of_whole (λ q. after ≡ chip_after_any before q) c.as_bytes.result.now (c.args.line.now) whole c.as_bytes.ensures.bytes e c.replay_line.ensures.chip;
      text = λ whole e. of_whole (λ q. c.replay_line.result ≡ text_after_any before q) c.as_bytes.result.now (c.args.line.now) whole c.as_bytes.ensures.bytes e c.replay_line.ensures.text;
    }
