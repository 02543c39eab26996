use Rattle.std.proofs.Common.{◌≡◌, take, filter}
use Rattle.san_text.specs.Fit.{agrees}
use Rattle.san_text.specs.Spelling.{plain_spelling}
use Rattle.san_text.proofs.Found.{found_list}
use Rattle.san_text.proofs.reading.read_san.Given as goal

-- those that fit so far
abbrev pub invariant-loop-m : goal.invariant-loop-m
invariant-loop-m l = filter (agrees l.at (plain_spelling l.spelling)) (take l.m-index l.m-items) ≡ found_list l.found
