-- The field without its lowest bit is less than the field, so the field is the measure.
use Rattle.words.proofs.+low_ones_of.Given as goal

abbrev pub decreases-low_ones_of : goal.decreases-low_ones_of
decreases-low_ones_of l = l.field
