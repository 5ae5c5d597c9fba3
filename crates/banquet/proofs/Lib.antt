-- Laws that ask for nothing, and that no contract cites: the slices lent by answer, refusals in order, that a check accepts exactly where all that it checks
-- holds, and the numbers of the leaves. What rests on them stands here too, so that an edit of a definition in specs/ is refused by a fact.
pub mod Lent
pub mod Refusals
pub mod OpeningChecks
pub mod SignatureChecks
pub mod Tree
