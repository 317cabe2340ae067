-- The card that a list of calls gives back: after the calls, or new where the log did not fit them.
use Rattle.std.specs.Prelude.{Ok, Err, Result}
use Rattle.card.specs.declared.card.Card.{Card}
use Rattle.play.specs.declared.wrong_log.WrongLog.{WrongLog}

abbrev pub card_in : {M O : Type 0} → Result (Card M O) (WrongLog M O) → Card M O
card_in (Ok card) = card
card_in (Err unplayed) = unplayed.card
