use Rattle.card.proofs.make.calibration_kept.Goals as goal

pub returns : goal.returns
returns g c =
    c.sealed_calibration_holds-holds.ensures.law (g.M.Array.meaning c.args.main.now) (g.O.Array.meaning c.args.otp.now) c.blocks-n.ensures.shape c.blocks-m.ensures.shape
