pub mod Calendar
pub mod CalendarWords
