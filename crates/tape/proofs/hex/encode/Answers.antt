use Rattle.std.proofs.Common.{◌≡◌, ℕ, ◌+◌, ◌*◌, ◌/◌, ◌%◌, ◌<◌, ◌≤◌, List, [], ◌∷◌, ◌++◌, length, get_or, take, set, sym, ap, ◌∙◌, length-set, arith}
use Rattle.std.proofs.lemmas.List.{take_all, take_more_set}
use Rattle.tape.specs.Hex.{hex_digit, hex_text}
use Rattle.tape.proofs.Writing.{two_more, hex_more}
use Rattle.tape.proofs.hex.encode.Goals as goal

two_set : (ds : List ℕ) (k a b : ℕ) → k + 1 < length ds → take (k + 1 + 1) (set (set ds k a) (k + 1) b) ≡ take k ds ++ (a ∷ b ∷ [])
two_set ds k a b h =
    let size = length-set ds k a in
    two_more (take k ds) (take (k + 1) (set ds k a)) _ a b (take_more_set ds k a (omega arith)) (take_more_set (set ds k a) (k + 1) b (omega arith))

stored : (bs ds : List ℕ) (i a b : ℕ) → i < length bs → 2 * i + 1 < length ds → take (2 * i) ds ≡ hex_text (take i bs) → a ≡ hex_digit (get_or bs i 0 / 16) → b ≡ hex_digit (get_or bs i 0 % 16) → take (2 * (i + 1)) (set (set ds (2 * i) a) (2 * i + 1) b) ≡ hex_text (take (i + 1) bs)
stored bs ds i a b h k e p q =
    let next : 2 * (i + 1) ≡ 2 * i + 1 + 1 = omega arith in
    let here = two_set ds (2 * i) a b k in
    let whole = hex_more [] (take (2 * i) ds) (take (2 * i) ds ++ (a ∷ b ∷ [])) bs i h e (ap (λ n. take (2 * i) ds ++ (n ∷ b ∷ [])) p ∙ ap (λ n. take (2 * i) ds ++ (hex_digit (get_or bs i 0 / 16) ∷ n ∷ [])) q) in
    ap (λ n. take n (set (set ds (2 * i) a) (2 * i + 1) b)) next ∙ (here ∙ whole)

finished : (bs ds : List ℕ) (i : ℕ) → length ds ≡ 2 * length bs → length bs ≤ i → take (2 * i) ds ≡ hex_text (take i bs) → ds ≡ hex_text bs
finished bs ds i long h e = sym (take_all (2 * i) ds (omega arith)) ∙ (e ∙ ap hex_text (take_all i bs h))

pub loop-i-preserved : goal.loop-i-preserved
loop-i-preserved c = stored c.args.bytes.now c.loop-i.digits c.loop-i.i _ _ (omega arith) (omega arith) c.loop-i.invariant c.digit.ensures c.digit-in-loop-i.ensures

pub returns : goal.returns
returns c = finished c.args.bytes.now c.loop-i.digits c.loop-i.i (omega arith) (omega arith) c.loop-i.invariant
