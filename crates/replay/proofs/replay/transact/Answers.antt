use Rattle.std.proofs.Common.{◌≡◌, ℕ, ◌/◌, ◌≤◌, min, List, ◌++◌, length, take, replicate, ap, ◌∙◌, subst, arith}
use Rattle.std.proofs.lemmas.List.{take_all, take_at, length-take-le}
use Rattle.tape.specs.Hex.{bytes_in}
use Rattle.tape.proofs.Decoding.{length-bytes_in}
use Rattle.rules.specs.Calls.{transact}
use Rattle.replay.specs.Replayed.{reply_text}
use Rattle.replay.proofs.replay.transact.Goals as goal

-- there is room for all bytes that the digits stand for
all_decoded : (ds left after : List ℕ) (count : ℕ) → length ds ≤ 128 → count ≡ min (length ds / 2) 64 → after ≡ take count (bytes_in ds) ++ left → take count after ≡ bytes_in ds
all_decoded ds left after count h e p =
    let long = length-bytes_in ds in
    let whole : take count (bytes_in ds) ≡ bytes_in ds = take_all count (bytes_in ds) (omega arith) in
    let here : after ≡ bytes_in ds ++ left = p ∙ ap (λ l. l ++ left) whole in
    ap (take count) here ∙ take_at (bytes_in ds) left count (omega arith)

-- what was shown of the parts that were handed on holds of the whole
moved : (P : List ℕ → ℕ → Type 0) (xs ys : List ℕ) (m n : ℕ) → xs ≡ ys → m ≡ n → P xs m → P ys n
moved P xs ys m n p q h = subst (P ys) q (subst (λ zs. P zs m) p h)

pub returns : goal.returns
returns g c =
    let before = g.C.StoreCard.chip c.args.card.now in
    let after = g.C.StoreCard.chip c.send.new.card in
    let t = c.args.asked in
    let ds = t.digits.now in
    let sent : List ℕ = take c.decode-count.result c.decode-count.new.bytes in
    let blank : List ℕ = take t.area_length (replicate 64 0) in
    let sent_is : sent ≡ bytes_in ds = all_decoded ds _ c.decode-count.new.bytes c.decode-count.result c.requires.1 c.decode-count.ensures.count c.decode-count.ensures.after in
    let area_is : length blank ≡ t.area_length = length-take-le t.area_length (replicate 64 0) (omega arith) ∙ omega arith in
    record {
      chip = moved (λ s n. after ≡ (transact before s t.low n).chip) sent (bytes_in ds) (length blank) t.area_length sent_is area_is c.send.ensures.chip;
      text = moved (λ s n. c.send.result ≡ reply_text (transact before s t.low n)) sent (bytes_in ds) (length blank) t.area_length sent_is area_is c.send.ensures.text;
    }
