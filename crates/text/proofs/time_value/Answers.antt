-- Each way out is a law on the field: its length, its colon, its two numbers, and their ranges.
use Rattle.text.specs.Time.{time_empty, time_length, time_colon, time_hours, time_minutes}
use Rattle.text.specs.Time.{time_past_hours, time_past_minutes, time_minute}
use Rattle.text.proofs.time_value.Goals as goal

pub returns-then-n-eq0 : goal.returns-then-n-eq0
returns-then-n-eq0 c = search time_empty

pub returns-then-n-ne-TIME_BYTES : goal.returns-then-n-ne-TIME_BYTES
returns-then-n-ne-TIME_BYTES c = search time_length

pub returns-then-field-ne-COLON : goal.returns-then-field-ne-COLON
returns-then-field-ne-COLON c = search time_colon

pub returns-then-hours-gt-NUMBER_MOST : goal.returns-then-hours-gt-NUMBER_MOST
returns-then-hours-gt-NUMBER_MOST c = search time_hours

pub returns-then-minutes-gt-NUMBER_MOST : goal.returns-then-minutes-gt-NUMBER_MOST
returns-then-minutes-gt-NUMBER_MOST c = search time_minutes

pub returns-then-hours-gt-HOURS_MOST : goal.returns-then-hours-gt-HOURS_MOST
returns-then-hours-gt-HOURS_MOST c = search time_past_hours

pub returns-then-minutes-gt-MINUTES_MOST : goal.returns-then-minutes-gt-MINUTES_MOST
returns-then-minutes-gt-MINUTES_MOST c = search time_past_minutes

pub returns : goal.returns
returns c = search time_minute
