-- Intervals, wide bounds and results of calls as ranges.
use Rattle.std.specs.Prelude.{Result, Ok, Err}
use Rattle.star_interval.specs.{declared.Interval.Interval, declared.Wide.Wide, Range.Range}

-- the numbers of an interval
abbrev pub range_of : Interval → Range
range_of i = record { low = i.low; high = i.high }

-- the numbers between wide bounds
abbrev pub wide_range_of : Wide → Range
wide_range_of w = record { low = w.low; high = w.high }

-- the bounds in the result of a call, whether they fit 64 bits or not
abbrev pub bounds_of : Result Interval Wide → Range
bounds_of (Ok i) = range_of i
bounds_of (Err w) = wide_range_of w
