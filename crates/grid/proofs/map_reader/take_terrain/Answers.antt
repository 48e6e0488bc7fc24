-- The run of terrain lies in the bytes at hand.
use Rattle.std.proofs.Common.{◌≡◌, ◌≤◌, ◌<◌, [], length, take, drop, sym, ap, subst, ◌∙◌, inr, arith, length-take-le}
use Rattle.grid.specs.Terrain.{is_terrain}
use Rattle.text_io.specs.Source.{at_hand, Takes}
use Rattle.text_io.specs.Laws.Taking.{Takes-trans, none_matched}
use Rattle.text_io.specs.Laws.Runs.{run_in_bytes, run_at_most, run_is_all, no_run}
use Rattle.grid.proofs.map_reader.take_terrain.Goals as goal

pub slice_bounds-extend_from_slice-end : goal.slice_bounds-extend_from_slice-end
slice_bounds-extend_from_slice-end g c =
    let bytes = c.at_hand-bytes.result.now in
    sym (length-take-le c.terrain_run-run.result bytes (run_in_bytes is_terrain bytes c.args.most c.min-room.result _ c.min-room.ensures c.terrain_run-run.ensures))

pub take-requires : goal.take-requires
take-requires g c =
    let bytes = c.at_hand-bytes.result.now in
    let within = run_in_bytes is_terrain bytes c.args.most c.min-room.result _ c.min-room.ensures c.terrain_run-run.ensures in
    (omega arith, subst (λ l. c.terrain_run-run.result ≤ length l) c.at_hand-bytes.ensures within)

pub overflow_cast-result : goal.overflow_cast-result
overflow_cast-result g c =
    let bytes = c.at_hand-bytes.result.now in
    let small : c.terrain_run-run.result ≤ c.args.most = run_at_most is_terrain bytes c.args.most c.min-room.result _ c.min-room.ensures c.terrain_run-run.ensures in
    let fits = c.ranges.most.fits in
    omega arith

pub returns : goal.returns
returns g c =
    let bytes = c.at_hand-bytes.result.now in
    let run = c.terrain_run-run.result in
    let inside = run_in_bytes is_terrain bytes c.args.most c.min-room.result _ c.min-room.ensures c.terrain_run-run.ensures in (
      run_at_most is_terrain bytes c.args.most c.min-room.result _ c.min-room.ensures c.terrain_run-run.ensures,
      take run bytes,
      length-take-le run bytes inside,
      run_is_all is_terrain bytes c.args.most c.min-room.result _ c.min-room.ensures c.terrain_run-run.ensures,
      c.in_ok-extend_from_slice.ensures.items,
      subst (λ l. Takes g.R.Read.remaining c.args.source.now c.take.new.self (take run l)) (sym c.at_hand-bytes.ensures)
          (Takes-trans g.R.Read.remaining _ _ _ [] _ c.fill.ensures.takes c.take.ensures.takes),
      λ none.
          let at_hand_is : at_hand c.take.new.self ≡ bytes = c.take.ensures.rest ∙ ap (λ n. drop n (at_hand c.fill.new.self)) none ∙ sym c.at_hand-bytes.ensures in
          let some : 0 < length bytes = subst (λ l. 0 < length l) (sym c.at_hand-bytes.ensures) (none_matched _ c.fill.result (sym c.if-is_some.ensures) c.fill.ensures.cases).0 in
          let room_is = c.min-room.ensures in
          let asked = c.requires in
          let room : 0 < c.min-room.result = omega arith in
          let first = no_run is_terrain c.min-room.result bytes room some (sym c.terrain_run-run.ensures ∙ none) in
          inr (first.0, first.1, at_hand_is ∙ first.2, first.3),
    )
