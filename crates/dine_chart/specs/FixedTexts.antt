-- The texts that stand in every picture of a kind as they are.
use Rattle.std.specs.Prelude.{ℕ, List}
use Rattle.dine_chart.specs.declared.fixed.FixedText.{FixedText}
use Rattle.dine_chart.specs.declared.fixed.FixedText.TheVariants as fixed
use Rattle.dine_chart.specs.Svg.{opening_text, looks_text, heading_opening, heading_middle, heading_end, place_opening, ground_end, naming_opening, totals_opening, legend_signs}
use Rattle.dine_chart.specs.Elements.{box_end, path_end}
use Rattle.dine_chart.specs.Page.{page_opening, table_opening, row_end, page_end}
use Rattle.dine_chart.specs.Graph.{graph_opening}

-- which text it is
abbrev pub fixed_text : FixedText → List ℕ
fixed_text fixed.SvgOpening = opening_text
fixed_text fixed.Looks = looks_text
fixed_text fixed.HeadingOpening = heading_opening
fixed_text fixed.HeadingMiddle = heading_middle
fixed_text fixed.HeadingEnd = heading_end
fixed_text fixed.PlaceOpening = place_opening
fixed_text fixed.GroundEnd = ground_end
fixed_text fixed.NamingOpening = naming_opening
fixed_text fixed.TotalsOpening = totals_opening
fixed_text fixed.LegendSigns = legend_signs
fixed_text fixed.BoxEnd = box_end
fixed_text fixed.PathEnd = path_end
fixed_text fixed.PageOpening = page_opening
fixed_text fixed.TableOpening = table_opening
fixed_text fixed.RowEnd = row_end
fixed_text fixed.PageEnd = page_end
fixed_text fixed.GraphOpening = graph_opening
