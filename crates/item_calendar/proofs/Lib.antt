pub mod Examples
pub mod WeekdayLaws
pub mod CalendarLaws
pub mod DaysLaws
