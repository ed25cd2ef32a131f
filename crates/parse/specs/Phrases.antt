-- Short words for contracts: how many bytes the areas have, and what the parse call leaves.
use Rattle.std.specs.Prelude.{Result, length}
use Rattle.area.specs.Phrases.{Bytes, before, after}
use Rattle.parse.specs.declared.FileCounts.{FileCounts}
use Rattle.parse.specs.declared.ParseError.{ParseError}
use Rattle.parse.specs.Parse.{Caps, caps, Left, left}
use Rattle.parse.specs.Answers.{answered, counts_left}

-- how many bytes each of the six areas has
abbrev pub room_in : Bytes → Bytes → Bytes → Bytes → Bytes → Bytes → Caps
room_in area1 area2 area3 area4 area5 area6 =
    caps (length (before area1)) (length (before area2)) (length (before area3)) (length (before area4)) (length (before area5)) (length (before area6))

-- an answer, which has the counts, and the areas, as the call leaves them
abbrev pub left_in : Result FileCounts ParseError → Bytes → Bytes → Bytes → Bytes → Bytes → Bytes → Left
left_in r area1 area2 area3 area4 area5 area6 =
    left (answered r) (counts_left r) (after area1) (after area2) (after area3) (after area4) (after area5) (after area6)
