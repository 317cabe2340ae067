use Rattle.std.proofs.Common.{◌≡◌, ap, sym, subst, ◌∙◌, rules}
use Rattle.links.specs.Links.{sound, swapped}
use Rattle.links.specs.LinkLaws.{Turned}
use Rattle.links.proofs.Swapping.{swapped_sound}
use Rattle.links.proofs.Turning.{turned}
use Rattle.links.proofs.swap.swap_among.Goals as goal

pub returns : goal.returns
returns c =
    let a = c.args.first in
    let b = c.args.second in
    let es = c.args.entries.now in
    let after : c.place_link.new.entries ≡ swapped a b es = search rules in
    record {
      after = after;
      sound = λ n s m. ap sound after ∙ swapped_sound n a b es s m;
      turned = λ n s m. subst (Turned n a b es) (sym after) (turned n a b es s m);
    }
