use Rattle.ps_report.proofs.place.add_place.Goals as goal

pub returns-in-PriceTimes-clause-line : goal.returns-in-PriceTimes-clause-line
returns-in-PriceTimes-clause-line g c = rw c.in-PriceTimes.is c.add_price.ensures.line

pub returns-in-PricePlus-clause-line : goal.returns-in-PricePlus-clause-line
returns-in-PricePlus-clause-line g c = rw c.in-PricePlus.is c.add_price-in-PricePlus.ensures.line

pub returns-in-ColumnTimes-clause-line : goal.returns-in-ColumnTimes-clause-line
returns-in-ColumnTimes-clause-line g c = rw c.in-ColumnTimes.is c.add_entry.ensures.line
