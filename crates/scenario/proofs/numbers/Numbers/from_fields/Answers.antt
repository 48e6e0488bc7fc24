use Rattle.std.proofs.Common.{min, sym, ◌∙◌}
use Rattle.scenario.specs.ScenFault.{value_of, is_bucket, is_size, is_number}
use Rattle.scenario.specs.Code.Parsing.{fields_seen, most_told}
use Rattle.scenario.proofs.NumberLemmas.{some_from_test, no_wrong_number}
use Rattle.scenario.proofs.numbers.Numbers.from_fields.Goals as goal

pub returns : goal.returns
returns c =
    let f = fields_seen c.args.fields.now in
    let bucket = some_from_test (is_bucket f.bucket) c.in_ok-bucket.bucket (value_of f.bucket) (sym c.in_ok-bucket.ensures.ok_part ∙ c.bucket_of.ensures) in
    let width = some_from_test (is_size f.width) c.in_ok-width.width (value_of f.width) (sym c.in_ok-width.ensures.ok_part ∙ c.size_of.ensures) in
    let height = some_from_test (is_size f.height) c.in_ok-height.height (value_of f.height) (sym c.in_ok-height.ensures.ok_part ∙ c.size_of-2.ensures) in
    let start_x = some_from_test (is_number f.start_x) c.in_ok-start_x.start_x (min (value_of f.start_x) most_told) (sym c.in_ok-start_x.ensures.ok_part ∙ c.spelled.ensures) in
    let start_y = some_from_test (is_number f.start_y) c.in_ok-start_y.start_y (min (value_of f.start_y) most_told) (sym c.in_ok-start_y.ensures.ok_part ∙ c.spelled-2.ensures) in
    let goal_x = some_from_test (is_number f.goal_x) c.in_ok-goal_x.goal_x (min (value_of f.goal_x) most_told) (sym c.in_ok-goal_x.ensures.ok_part ∙ c.spelled-3.ensures) in
    let goal_y = some_from_test (is_number f.goal_y) c.in_ok-goal_y.goal_y (min (value_of f.goal_y) most_told) (sym c.in_ok-goal_y.ensures.ok_part ∙ c.spelled-4.ensures) in (
      no_wrong_number f bucket.0 width.0 height.0 start_x.0 start_y.0 goal_x.0 goal_y.0,
      record {
        bucket = bucket.1;
        width = width.1;
        height = height.1;
        start_x = start_x.1;
        start_y = start_y.1;
        goal_x = goal_x.1;
        goal_y = goal_y.1;
      },
    )
