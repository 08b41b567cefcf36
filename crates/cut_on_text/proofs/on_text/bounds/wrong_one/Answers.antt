use Rattle.std.proofs.Common.{refl}
use Rattle.cut_on_text.specs.Holders.{IsHeld}
use Rattle.city_json.proofs.PassedItems.{all_left, next_one, one_less}
use Rattle.cut_on_text.proofs.ScannedBounds.{AlsoLeft}
use Rattle.cut_on_text.proofs.on_text.bounds.wrong_one.Goals as goal

pub items-init : goal.items-init
items-init c = all_left (AlsoLeft (IsHeld c.args.holder c.args.count)) c.args.items.now c.args.items.now refl (λ all held. held)

pub returns-in-Some : goal.returns-in-Some
returns-in-Some c = λ all of held.
    let (first, others, one_of, also) = next_one (AlsoLeft (IsHeld c.args.holder c.args.count)) c.args.items.now
    c.items.items c.in_ok-one.one.now c.next.new.self c.items.invariant c.in_ok-one.ensures.some all of in
    c.in-Some.ensures first one_of (also held).0

pub items-preserved : goal.items-preserved
items-preserved c =
    let P = IsHeld c.args.holder c.args.count in
    one_less (AlsoLeft P) (AlsoLeft P) c.args.items.now c.items.items c.in_ok-one.one.now c.next.new.self c.items.invariant
    c.in_ok-one.ensures.some (λ all first others one_of also held. (also held).1)
