use Rattle.std.proofs.Common.{arith}
use Rattle.std.specs.Simd.Lanes.{chunk}
use Rattle.std.proofs.lemmas.Simd.{length-chunk}
use Rattle.city_json.proofs.WholeArrays.{block_open, block_place, block_goes}
use Rattle.city_json.proofs.compacting.whole_arrays.after_block.Goals as goal

pub returns-clause-open : goal.returns-clause-open
returns-clause-open c =
    let text = c.args.text.now in
    let bs = chunk c.args.at 64 text in
    let found = c.in_ok-found.found in
    let deep = c.stays_open.ensures c.if-not-stays_open.false bs
    (omega (arith, length-chunk c.args.at 64 text c.requires.within)) c.in_ok-found.ensures.opens
    c.in_ok-found.ensures.closes in
    block_open text c.args.at c.requires.within c.args.from.depth found.opens found.closes c.in_ok-found.ensures.opens
    c.in_ok-found.ensures.closes deep

pub returns-clause-place : goal.returns-clause-place
returns-clause-place c =
    block_place c.args.text.now c.args.at c.requires.within c.args.from.zeroed c.requires.place
    c.in_ok-found.ensures.fine

pub returns-clause-goes_on : goal.returns-clause-goes_on
returns-clause-goes_on c =
    let text = c.args.text.now in
    let bs = chunk c.args.at 64 text in
    let found = c.in_ok-found.found in
    let deep = c.stays_open.ensures c.if-not-stays_open.false bs
    (omega (arith, length-chunk c.args.at 64 text c.requires.within)) c.in_ok-found.ensures.opens
    c.in_ok-found.ensures.closes in
    block_goes text c.args.at c.requires.within c.args.from.depth found.opens found.closes c.in_ok-found.ensures.opens
    c.in_ok-found.ensures.closes deep c.args.from.room c.args.from.zeroed found.zeroed c.requires.place
    c.in_ok-found.ensures.fine c.in_ok-found.ensures.zeroed c.if-opened-from.false
