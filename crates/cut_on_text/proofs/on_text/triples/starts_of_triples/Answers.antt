use Rattle.std.proofs.Common.{◌-◌, ◌+◌, ◌≤◌, arith, length, refl}
use Rattle.cut_on_text.proofs.TripleStarts.{goes_on_after, goes_on_to, stand_there}
use Rattle.cut_on_text.proofs.on_text.triples.starts_of_triples.Goals as goal

pub blocks-2-preserved : goal.blocks-2-preserved
blocks-2-preserved c =
    let text = c.args.text.now in
    let last = length text - 1 in
    let within : c.blocks-2.at + 64 ≤ length text - 1 = omega (arith, c.blocks-2-test.true, c.blocks-2.invariant.within) in
    record {
      within = within;
      goes_on = goes_on_after text last c.blocks-2.at (c.blocks-2.at + 64) c.blocks-2.starts.items
          c.push_block.new.starts.items (omega arith) within (omega arith) c.blocks-2.invariant.goes_on
          c.in_ok-push_block.ensures;
    }

pub bytes-preserved : goal.bytes-preserved
bytes-preserved c =
    let text = c.args.text.now in
    let last = length text - 1 in
    let within : c.bytes.at + 1 ≤ length text - 1 = omega (arith, c.bytes-test.true) in
    record {
      within = within;
      goes_on = goes_on_after text last c.bytes.at (c.bytes.at + 1) c.bytes.starts.items c.push_byte.new.starts.items
          (omega arith) within (omega arith) c.bytes.invariant.goes_on c.in_ok-push_byte.ensures;
    }

pub returns : goal.returns
returns c =
    let text = c.args.text.now in
    let last = length text - 1 in
    stand_there text c.bytes.starts.items last c.requires refl
    (goes_on_to text last c.bytes.at c.bytes.starts.items c.bytes.invariant.within c.bytes-test.false
    c.bytes.invariant.goes_on)
