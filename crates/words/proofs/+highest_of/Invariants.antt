-- The field without its lowest bit is less than the field, so the field is the measure.
use Rattle.words.proofs.+highest_of.Given as goal

abbrev pub decreases-highest_of : goal.decreases-highest_of
decreases-highest_of l = l.field
